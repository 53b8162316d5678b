-- A machine that is fed bytes one by one, for any state S and any happening E. A call feeds it a piece up to the first byte that stops the
-- call, or to the piece's end.
use Rattle.std.specs.Prelude.{ℕ, ◌+◌, List, [], ◌∷◌, ◌++◌}

-- what a byte does: a quiet one changes the state alone; one that stops the call may be answered, and something happens
pub data Fed (S E : Type 0) : Type 0 where
  quiet : S → Fed S E
  stop : S → List ℕ → E → Fed S E

-- what a call comes to: the bytes used, the state after it, the reply, and what happened
pub record Out (S E : Type 0) : Type 0 where
  pub used : ℕ
  pub state : S
  pub reply : List ℕ
  pub happened : E

-- what the peer and the host see in all: the replies one after the other, and all that happened
pub record Seen (S E : Type 0) : Type 0 where
  pub state : S
  pub reply : List ℕ
  pub happened : List E

module _ {S E : Type 0} where
  abbrev pub after : Fed S E → ℕ → (S → Out S E) → Out S E
  after (quiet s) k f = f s
  after (stop s w e) k f = record { used = k + 1; state = s; reply = w; happened = e }

  abbrev pub before : List ℕ → List E → Seen S E → Seen S E
  before w es t = record { state = t.state; reply = w ++ t.reply; happened = es ++ t.happened }

  abbrev pub seen_after : (E → List E) → Fed S E → (S → Seen S E) → Seen S E
  seen_after reports (quiet s) f = f s
  seen_after reports (stop s w e) f = before w (reports e) (f s)

  -- a call on a piece, at k bytes used before; `none` is what happens where no byte stops the call
  abbrev pub run : (S → ℕ → Fed S E) → E → ℕ → S → List ℕ → Out S E
  run feed none k s [] = record { used = k; state = s; reply = []; happened = none }
  run feed none k s (b ∷ bs) = after (feed s b) k (λ t. run feed none (k + 1) t bs)

  -- the whole stream, byte by byte; `reports e` is what the host reports of e
  abbrev pub seen : (S → ℕ → Fed S E) → (E → List E) → S → List ℕ → Seen S E
  seen feed reports s [] = record { state = s; reply = []; happened = [] }
  seen feed reports s (b ∷ bs) = seen_after reports (feed s b) (λ t. seen feed reports t bs)
