-- Callsigns: what the reader's tests come to.
use Rattle.std.specs.Prelude.{Option, Some, None, if◌then◌else◌}
use Prim.Native.Nat.{ℕ, ◌-◌, ◌≤◌, ◌<◌}
use mathlib.Core.Path.{◌≡◌, sym, ◌∙◌}
use mathlib.Core.Bool.{true, false}
use mathlib.Core.List.{List}
use lib.ListN.{length, take, drop}
use Rattle.octets.specs.Words.{◌and◌, between}
use Rattle.octets.proofs.Tests.{if_yes, if_no, and_both, and-not-left, and-not-right, inside, below, above}
use Rattle.callsigns.specs.Runs.{run}
use Rattle.callsigns.specs.Callsign.{alnum, suffix, suffix_ssid, base_length, ssid, callsign, call_of, callsign_of}
use Rattle.callsigns.specs.Suffix.{suffix_of}
use Rattle.callsigns.specs.declared.Call.{Call}
use Rattle.callsigns.proofs.Choices.{chosen, unchosen}
use Rattle.callsigns.proofs.Runs.{rest_part}

ssid-not-bad : (n : ℕ) → ◌≡◌ {A = Option ℕ} (Some n) None → ⊥
ssid-not-bad n e = cc

-- ---- the reader's tests

-- n is the length of the base that the reader found
module _ (s : List ℕ) (n : ℕ) (e : n ≡ length (run alnum s)) where
  split : callsign_of s ≡ (if between 1 9 n and suffix (take (length s - n) (drop n s)) then Some (record { base = n; ssid = suffix_ssid (take (length s - n) (drop n s)) }) else None)
  unfolding callsign_of callsign call_of base_length ssid
  split = rw (rest_part alnum s n e, e)

  pub base-none : n < 1 → None ≡ callsign_of s
  base-none h = sym (split ∙ if_no _ _ _ (and-not-left _ _ (below 1 9 n h)))

  pub base-long : 9 < n → None ≡ callsign_of s
  base-long h = sym (split ∙ if_no _ _ _ (and-not-left _ _ (above 1 9 n h)))

  pub call-bad : suffix_of (take (length s - n) (drop n s)) ≡ None → None ≡ callsign_of s
  unfolding suffix_of
  call-bad q = sym (split ∙ if_no _ _ _ (and-not-right (between 1 9 n) _ (unchosen _ _ _ _ q (ssid-not-bad _))))

  pub call-good : (k : ℕ) → 1 ≤ n → n ≤ 9 → suffix_of (take (length s - n) (drop n s)) ≡ Some k → Some (record { base = n; ssid = k }) ≡ callsign_of s
  unfolding suffix_of
  call-good k low high q =
      let t = chosen (suffix (take (length s - n) (drop n s))) (Some (suffix_ssid (take (length s - n) (drop n s)))) None (Some k) q (λ b. ssid-not-bad k (sym b)) in
      let m : suffix_ssid (take (length s - n) (drop n s)) ≡ k = cc in
      sym (split ∙ if_yes _ _ _ (and_both _ _ (inside 1 9 n low high) t.0) ∙ rw m)

-- ---- what a reader's answer says of the text

call-not-malformed : (c : Call) → ◌≡◌ {A = Option Call} (Some c) None → ⊥
call-not-malformed c e = cc

pub is-callsign : (s : List ℕ) (c : Call) → callsign_of s ≡ Some c → (callsign s ≡ true) × (call_of s ≡ c)
unfolding callsign_of
is-callsign s c e =
    let k = chosen (callsign s) (Some (call_of s)) None (Some c) e (λ b. call-not-malformed c (sym b)) in
    (k.0, cc)

pub no-callsign : (s : List ℕ) → callsign_of s ≡ None → callsign s ≡ false
unfolding callsign_of
no-callsign s e = unchosen (callsign s) (Some (call_of s)) None None e (call-not-malformed (call_of s))
