-- THEOREM: whatever calls a host makes, it sees what the machine does with the bytes that the calls used; so a host that offers unused bytes
-- again sees the same however the peer's stream is cut, and whatever it lends.
use Prim.Native.Nat.{ℕ, zero, suc, ◌+◌, ◌-◌, ◌≤◌}
use native.Mathlib.Omega.{arith}
use mathlib.Core.Path.{◌≡◌, refl, sym, ap, ◌∙◌}
use mathlib.Core.Bool.{Bool, true, false}
use mathlib.Core.Logic.{◌⊎◌, inl, inr}
use mathlib.Core.List.{List, [], ◌∷◌, ◌++◌, append-nil, append_assoc}
use lib.ListN.{length, take, drop, length-drop, take-append-drop}
use lib.Seq.{take-append-le}
use Rattle.machine.specs.Machine.{Fed, quiet, stop, Out, Seen, after, before, seen_after, run, seen}
use Rattle.machine.specs.Hosts.{bytes_used, seen_by, Offers, unused, Through}

module _ {S E : Type 0} (feed : S → ℕ → Fed S E) (none : E) where
  abbrev R : ℕ → S → List ℕ → Out S E
  R = run feed none

  -- the count of a call is what came before and what it used itself, and never more than the piece
  pub used-from : (k : ℕ) (s : S) (bs : List ℕ) → (k ≤ (R k s bs).used) × ((R k s bs).used ≤ k + length bs)
  used-from k s [] = omega arith
  used-from k s (b ∷ bs) = go (feed s b) (λ t. used-from (k + 1) t bs)
    where
      go : (f : Fed S E) → ((t : S) → (k + 1 ≤ (R (k + 1) t bs).used) × ((R (k + 1) t bs).used ≤ k + 1 + length bs))
          → (k ≤ (after f k (λ t. R (k + 1) t bs)).used) × ((after f k (λ t. R (k + 1) t bs)).used ≤ k + suc (length bs))
      go (quiet t) ih = omega (arith, ih t)
      go (stop t w e) ih = omega arith

  -- a call on a piece that is not empty uses a byte
  pub used-some : (k : ℕ) (s : S) (b : ℕ) (bs : List ℕ) → k + 1 ≤ (R k s (b ∷ bs)).used
  used-some k s b bs = go (feed s b)
    where
      go : (f : Fed S E) → k + 1 ≤ (after f k (λ t. R (k + 1) t bs)).used
      go (quiet t) = (used-from (k + 1) t bs).0
      go (stop t w e) = omega arith

  -- what every byte keeps, a call keeps
  module _ (ok : S → Type 0) where
    abbrev pub ok_fed : Fed S E → Type 0
    ok_fed (quiet s) = ok s
    ok_fed (stop s w e) = ok s

    pub run-keeps : ((s : S) (b : ℕ) → ok s → ok_fed (feed s b)) → (k : ℕ) (s : S) (bs : List ℕ) → ok s → ok (R k s bs).state
    run-keeps fed k s [] o = o
    run-keeps fed k s (b ∷ bs) o = go (feed s b) (fed s b o) (λ t. run-keeps fed (k + 1) t bs)
      where
        go : (f : Fed S E) → ok_fed f → ((t : S) → ok t → ok (R (k + 1) t bs).state) → ok (after f k (λ t. R (k + 1) t bs)).state
        go (quiet t) p ih = ih t p
        go (stop t w e) p ih = p

  -- what every quiet byte keeps, and what every stop leaves, a call leaves
  module _ (ok : S → Type 0) (done : S → E → Type 0) (still : (s : S) → ok s → done s none) where
    abbrev pub on_fed : Fed S E → Type 0
    on_fed (quiet s) = ok s
    on_fed (stop s w e) = done s e

    pub run-leaves : ((s : S) (b : ℕ) → ok s → on_fed (feed s b)) → (k : ℕ) (s : S) (bs : List ℕ) → ok s → done (R k s bs).state (R k s bs).happened
    run-leaves fed k s [] o = still s o
    run-leaves fed k s (b ∷ bs) o = go (feed s b) (fed s b o) (λ t. run-leaves fed (k + 1) t bs)
      where
        go : (f : Fed S E) → on_fed f → ((t : S) → ok t → done (R (k + 1) t bs).state (R (k + 1) t bs).happened)
            → done (after f k (λ t. R (k + 1) t bs)).state (after f k (λ t. R (k + 1) t bs)).happened
        go (quiet t) p ih = ih t p
        go (stop t w e) p ih = p

  module _ (reports : E → List E) (mute : reports none ≡ []) where
    abbrev W : S → List ℕ → Seen S E
    W = seen feed reports

    -- what a call adds to what is seen from where it stopped
    abbrev sees : Out S E → Seen S E → Seen S E
    sees o t = before o.reply (reports o.happened) t

    quiet-noted : (s : S) (k : ℕ) (t : Seen S E) → sees (R k s []) t ≡ t
    quiet-noted s k t = rw mute

    -- what is seen of a stream that begins with the bytes that a call used is the call's part, then what is seen of what follows them
    call-prefix : (k : ℕ) (s : S) (bs cs : List ℕ) (m : ℕ) → (R k s bs).used ≡ k + m → W s (take m bs ++ cs) ≡ sees (R k s bs) (W (R k s bs).state cs)
    call-prefix k s [] cs zero h = sym (quiet-noted s k (W s cs))
    call-prefix k s [] cs (suc m) h = sym (quiet-noted s k (W s cs))
    call-prefix k s (b ∷ bs) cs zero h = absurd (omega (arith, used-some k s b bs))
    call-prefix k s (b ∷ bs) cs (suc m) h = go (feed s b) h (λ t. call-prefix (k + 1) t bs cs m)
      where
        go : (f : Fed S E) → (after f k (λ t. R (k + 1) t bs)).used ≡ k + suc m
            → ((t : S) → (R (k + 1) t bs).used ≡ k + 1 + m → W t (take m bs ++ cs) ≡ sees (R (k + 1) t bs) (W (R (k + 1) t bs).state cs))
            → seen_after reports f (λ t. W t (take m bs ++ cs)) ≡ sees (after f k (λ t. R (k + 1) t bs)) (W (after f k (λ t. R (k + 1) t bs)).state cs)
        go (quiet t) e ih = ih t (omega arith)
        go (stop t w v) e ih = let z : m ≡ 0 = omega arith in rw z

    -- ---- the host: a call runs its piece, or leaves everything as it was
    module _ {C : Type 0} (step : S → C → Out S E) (piece : C → List ℕ) (ok : S → Type 0)
        (keeps : (s : S) (c : C) → ok s → ok (step s c).state)
        (serves : (s : S) (c : C) → ok s → (step s c ≡ R 0 s (piece c)) ⊎ (step s c ≡ record { used = 0; state = s; reply = []; happened = none })) where
      abbrev B : S → List C → List ℕ
      B = bytes_used step piece

      abbrev H : S → List C → Seen S E
      H = seen_by step piece reports

      -- THE THEOREM over any list of calls: what is seen is what the bytes used lead to
      pub calls-bytes : (s : S) (cs : List C) → ok s → H s cs ≡ W s (B s cs)
      calls-bytes s [] o = refl
      calls-bytes s (c ∷ cs) o = go (step s c) (serves s c o) (calls-bytes (step s c).state cs (keeps s c o))
        where
          go : (x : Out S E) → (x ≡ R 0 s (piece c)) ⊎ (x ≡ record { used = 0; state = s; reply = []; happened = none })
              → H x.state cs ≡ W x.state (B x.state cs)
              → before x.reply (reports x.happened) (H x.state cs) ≡ W s (take x.used (piece c) ++ B x.state cs)
          go x (inl e) ih =
              let r = R 0 s (piece c) in
              ap (before x.reply (reports x.happened)) ih
              ∙ rw e (sym (call-prefix 0 s (piece c) (B r.state cs) r.used (omega arith)))
          go x (inr e) ih = ap (before x.reply (reports x.happened)) ih ∙ rw (e, mute)

      -- what was used and what is left are the stream
      split : (s : S) (stream : List ℕ) (cs : List C) → ok s → Offers step piece s stream cs → B s cs ++ unused step piece s stream cs ≡ stream
      split s stream [] o f = refl
      split s stream (c ∷ cs) o f = go (step s c).used (most s c o) (B (step s c).state cs) (unused step piece (step s c).state (drop (step s c).used stream) cs) (split (step s c).state (drop (step s c).used stream) cs (keeps s c o) f.1)
        where
          most : (s : S) (c : C) → ok s → (step s c).used ≤ length (piece c)
          most s c o = by (serves s c o)
            where
              by : (step s c ≡ R 0 s (piece c)) ⊎ (step s c ≡ record { used = 0; state = s; reply = []; happened = none }) → (step s c).used ≤ length (piece c)
              by (inl e) = rw e (omega (arith, used-from 0 s (piece c)))
              by (inr e) = rw e (omega arith)

          go : (n : ℕ) → n ≤ length (piece c) → (t u : List ℕ) → t ++ u ≡ drop n stream → (take n (piece c) ++ t) ++ u ≡ stream
          go n h t u ih =
              append_assoc (take n (piece c)) t u
              ∙ ap (λ (l : List ℕ). take n (piece c) ++ l) ih
              ∙ ap (λ (l : List ℕ). l ++ drop n stream) (sym (take-append-le n (piece c) f.0.0 h) ∙ ap (take n) f.0.1)
              ∙ take-append-drop n stream

      -- ---- a closed machine rests
      module _ (closed : S → Bool) (rests : (s : S) (b : ℕ) → closed s ≡ true → feed s b ≡ quiet s) where
        closed-seen : (s : S) (bs : List ℕ) → closed s ≡ true → W s bs ≡ record { state = s; reply = []; happened = [] }
        closed-seen s [] d = refl
        closed-seen s (b ∷ bs) d = rw (rests s b d) (closed-seen s bs d)

        -- so bytes after its end change nothing
        nothing-more : (s : S) (bs rest : List ℕ) → closed (W s bs).state ≡ true → W s (bs ++ rest) ≡ W s bs
        nothing-more s [] rest d = closed-seen s rest d
        nothing-more s (b ∷ bs) rest d = go (feed s b) d (λ t. nothing-more t bs rest)
          where
            go : (f : Fed S E) → closed (seen_after reports f (λ t. W t bs)).state ≡ true → ((t : S) → closed (W t bs).state ≡ true → W t (bs ++ rest) ≡ W t bs)
                → seen_after reports f (λ t. W t (bs ++ rest)) ≡ seen_after reports f (λ t. W t bs)
            go (quiet t) e ih = ih t e
            go (stop t w v) e ih = ap (before w (reports v)) (ih t e)

        -- a host that goes through a stream sees what the whole stream leads to
        pub stream-seen : (s : S) (stream : List ℕ) (cs : List C) → ok s → Through step piece closed reports s stream cs → H s cs ≡ W s stream
        stream-seen s stream cs o t = calls-bytes s cs o ∙ go t.1 ∙ ap (W s) (split s stream cs o t.0)
          where
            go : (unused step piece s stream cs ≡ []) ⊎ (closed (H s cs).state ≡ true) → W s (B s cs) ≡ W s (B s cs ++ unused step piece s stream cs)
            go (inl e) = rw e (ap (W s) (sym (append-nil (B s cs))))
            go (inr e) = sym (nothing-more s (B s cs) (unused step piece s stream cs) (ap (λ (x : Seen S E). closed x.state) (sym (calls-bytes s cs o)) ∙ e))

        -- however the stream is cut, and whatever is lent, the host sees the same
        pub cut-freely : (s : S) (stream : List ℕ) (cs ds : List C) → ok s → Through step piece closed reports s stream cs → Through step piece closed reports s stream ds → H s cs ≡ H s ds
        cut-freely s stream cs ds o p q = stream-seen s stream cs o p ∙ sym (stream-seen s stream ds o q)

        -- and there is such a host for every stream: one that offers all that is left, and at its n-th call from the last lends what it likes,
        -- as long as no call is refused before the machine is closed
        module _ (lend : ℕ → List ℕ → C) (offered : (n : ℕ) (l : List ℕ) → piece (lend n l) ≡ l)
            (taken : (n : ℕ) (s : S) (l : List ℕ) → ok s → closed s ≡ false → step s (lend n l) ≡ R 0 s l) where
          pub goes_through : (n : ℕ) (s : S) (stream : List ℕ) → ok s → length stream ≤ n → (cs : List C) × Through step piece closed reports s stream cs
          goes_through zero s stream o h = ([], (tt, inl (none_left stream h)))
            where
              none_left : (l : List ℕ) → length l ≤ 0 → l ≡ []
              none_left [] h = refl
              none_left (b ∷ bs) h = absurd (omega arith)
          goes_through (suc n) s stream o h = go stream h (closed s) refl (λ t l. goes_through n t l)
            where
              go : (stream : List ℕ) → length stream ≤ suc n → (x : Bool) → closed s ≡ x
                  → ((t : S) (l : List ℕ) → ok t → length l ≤ n → (cs : List C) × Through step piece closed reports t l cs)
                  → (cs : List C) × Through step piece closed reports s stream cs
              go [] h x e ih = ([], (tt, inl refl))
              go (b ∷ bs) h true e ih = ([], (tt, inr e))
              go (b ∷ bs) h false e ih =
                  let c = lend (suc n) (b ∷ bs) in
                  let u : 1 ≤ (step s c).used = rw (taken (suc n) s (b ∷ bs) o e) (used-some 0 s b bs) in
                  let l : length (drop (step s c).used (b ∷ bs)) ≤ n = rw length-drop (omega arith) in
                  let r = ih (step s c).state (drop (step s c).used (b ∷ bs)) (keeps s c o) l in
                  (c ∷ r.0, ((([], append-nil (piece c) ∙ offered (suc n) (b ∷ bs)), r.1.0), r.1.1))
