-- The groups of fields before the payload length, one after the other, and the rules tested on them: what they come to together.
use Rattle.std.proofs.Common.{ℕ, ◌+◌, ◌≤◌, ◌≡◌, List, length, false, true, arith}
use Rattle.octets.specs.Field.{bad, got}
use Rattle.layout.specs.Layout.{opening, ends, way, options, Opening, Ends, Way, Options, message_of, layout, message}
use Rattle.layout.specs.Rules.{valid}
use Rattle.layout.proofs.Whole.{layout-laws}
use Rattle.datagram_numbers.proofs.Chains.{tail, rest}

module _ (s : List ℕ) where
  pub no-opening : opening.parse s ≡ bad → message.parse s ≡ bad
  unfolding message layout
  no-opening e = rw e

  module _ (o : Opening) (n1 : ℕ) (eo : opening.parse s ≡ got o n1) where
    pub no_ends : (ends o.0).parse (tail n1 s) ≡ bad → message.parse s ≡ bad
    unfolding message layout
    no_ends e = rw (eo, ← rest n1 s, e)

    module _ (e : Ends) (n2 : ℕ) (ee : (ends o.0).parse (tail n1 s) ≡ got e n2) where
      pub no_way : (way o.0).parse (tail n2 (tail n1 s)) ≡ bad → message.parse s ≡ bad
      unfolding message layout
      no_way f = rw (eo, ← rest n1 s, ee, ← rest n2 (tail n1 s), f)

      module _ (w : Way) (n3 : ℕ) (ew : (way o.0).parse (tail n2 (tail n1 s)) ≡ got w n3) where
        pub no_options : (options o.0).parse (tail n3 (tail n2 (tail n1 s))) ≡ bad → message.parse s ≡ bad
        unfolding message layout
        no_options f = rw (eo, ← rest n1 s, ee, ← rest n2 (tail n1 s), ew, ← rest n3 (tail n2 (tail n1 s)), f)

        module _ (p : Options) (n4 : ℕ) (ep : (options o.0).parse (tail n3 (tail n2 (tail n1 s))) ≡ got p n4) where
          together : layout.parse s ≡ got (message_of (o, (e, (w, p)))) (n1 + n2 + n3 + n4)
          unfolding layout
          together =
              let z : n1 + (n2 + (n3 + n4)) ≡ n1 + n2 + n3 + n4 = omega arith in
              rw (eo, ← rest n1 s, ee, ← rest n2 (tail n1 s), ew, ← rest n3 (tail n2 (tail n1 s)), ep, z)

          pub all-room : n1 + n2 + n3 + n4 ≤ length s
          all-room = layout-laws.room s (message_of (o, (e, (w, p)))) (n1 + n2 + n3 + n4) together

          pub not_valid : valid (message_of (o, (e, (w, p)))) ≡ false → message.parse s ≡ bad
          unfolding message
          not_valid v = rw (together, v)

          pub is-valid : valid (message_of (o, (e, (w, p)))) ≡ true → message.parse s ≡ got (message_of (o, (e, (w, p)))) (n1 + n2 + n3 + n4)
          unfolding message
          is-valid v = rw (together, v)
