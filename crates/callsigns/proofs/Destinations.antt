-- Destinations: what the reader's tests come to.
use Rattle.std.specs.Prelude.{Option, Some, None, if◌then◌else◌}
use Prim.Native.Nat.{ℕ, ◌-◌, ◌≤◌, ◌<◌}
use mathlib.Core.Path.{◌≡◌, refl, sym, ◌∙◌}
use mathlib.Core.Bool.{false, true}
use mathlib.Core.List.{List, [], ◌∷◌}
use native.Mathlib.Omega.{arith}
use borrow.Author.Tests.{eq-eqb, ne_eqb}
use lib.ListN.{length, get_or, take, drop, get_or-eq_default}
use Rattle.octets.specs.Words.{◌and◌, ◌=?◌, between}
use Rattle.octets.proofs.Tests.{if_yes, if_no, and_both, and-not-left, and-not-right, inside, below, above}
use Rattle.callsigns.specs.Runs.{run}
use Rattle.callsigns.specs.Callsign.{callsign, call_of, callsign_of}
use Rattle.callsigns.proofs.Choices.{chosen, unchosen}
use Rattle.callsigns.specs.Destination.{app_byte, at_callsign, destination, address_of, destination_of}
use Rattle.callsigns.specs.declared.Address.{Address}
use Rattle.callsigns.specs.declared.Call.{Call}
use Rattle.callsigns.proofs.Runs.{tail-part, rest-drop}
use Rattle.callsigns.proofs.Callsigns.{is-callsign, no-callsign}

at_first : (t : List ℕ) → at_callsign t ≡ (get_or t 0 0 =? 64) and callsign (drop 1 t)
unfolding at_callsign
at_first [] = refl
at_first (x ∷ t) = refl

-- n is the length of the app that the reader found, and t what follows it
module _ (s : List ℕ) (n : ℕ) (e : n ≡ length (run app_byte s)) where
  abbrev t : List ℕ
  t = take (length s - n) (drop n s)

  split : destination_of s ≡ (if between 1 32 n and ((get_or t 0 0 =? 64) and callsign (drop 1 t)) then Some (record { app = n; call = call_of (drop 1 t) }) else None)
  unfolding destination_of destination address_of
  split = rw (tail-part s n, sym (at_first (drop n s)), rest-drop app_byte s, e)

  pub app-none : n < 1 → None ≡ destination_of s
  app-none h = sym (split ∙ if_no _ _ _ (and-not-left _ _ (below 1 32 n h)))

  pub app-long : 32 < n → None ≡ destination_of s
  app-long h = sym (split ∙ if_no _ _ _ (and-not-left _ _ (above 1 32 n h)))

  behind : (get_or t 0 0 =? 64) and callsign (drop 1 t) ≡ false → None ≡ destination_of s
  behind q = sym (split ∙ if_no _ _ _ (and-not-right (between 1 32 n) _ q))

  pub app-alone : length t < 1 → None ≡ destination_of s
  app-alone h = let z : get_or t 0 0 ≡ 0 = get_or-eq_default t 0 (omega arith) in behind (and-not-left _ _ (ne_eqb (get_or t 0 0) 64 (λ (q : get_or t 0 0 ≡ 64). omega (arith, z, q))))

  pub app-other : (get_or t 0 0 ≡ 64 → ⊥) → None ≡ destination_of s
  app-other q = behind (and-not-left _ _ (ne_eqb _ _ q))

  pub app-no-call : callsign_of (take (length t - 1) (drop 1 t)) ≡ None → None ≡ destination_of s
  app-no-call q = behind (and-not-right (get_or t 0 0 =? 64) _ (no-callsign _ (rw (tail-part t 1) at q)))

  pub app-call : (c : Call) → 1 ≤ n → n ≤ 32 → get_or t 0 0 ≡ 64 → callsign_of (take (length t - 1) (drop 1 t)) ≡ Some c → Some (record { app = n; call = c }) ≡ destination_of s
  app-call c low high m q =
      let k = is-callsign (drop 1 t) c (rw (tail-part t 1) at q) in
      sym (split ∙ if_yes _ _ _ (and_both _ _ (inside 1 32 n low high) (and_both _ _ (eq-eqb _ _ m) k.0)) ∙ rw k.1)

-- what the reader's answer says
address-not-malformed : (a : Address) → ◌≡◌ {A = Option Address} (Some a) None → ⊥
address-not-malformed a e = cc

pub is-destination : (s : List ℕ) (a : Address) → destination_of s ≡ Some a → destination s ≡ true
unfolding destination_of
is-destination s a e = (chosen (destination s) (Some (address_of s)) None (Some a) e (λ b. address-not-malformed a (sym b))).0

pub no-destination : (s : List ℕ) → destination_of s ≡ None → destination s ≡ false
unfolding destination_of
no-destination s e = unchosen (destination s) (Some (address_of s)) None None e (address-not-malformed (address_of s))
