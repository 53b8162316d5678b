-- What the private functions promise one another. No public promise cites this file.
use Rattle.std.specs.Prelude.{ℕ, ◌-◌, List, [], ◌∷◌, ◌++◌, take, drop}
use Rattle.replies.specs.Replies.{LF, 'error', bye, eh, help}

-- the texts of all replies, one behind the other: `send `, `ack `, `bad `, `error `, `error`, `bye`, `eh?` and the prompt, the help text and the prompt
abbrev pub texts : List ℕ
texts =
    (115 ∷ 101 ∷ 110 ∷ 100 ∷ 32 ∷ []) ++ ((97 ∷ 99 ∷ 107 ∷ 32 ∷ []) ++ ((98 ∷ 97 ∷ 100 ∷ 32 ∷ []) ++ (('error' ++ (32 ∷ [])) ++ (('error' ++ LF) ++ (bye ++ (eh ++ help))))))

-- those from one place up to another
abbrev pub part : ℕ → ℕ → List ℕ
part from to = take (to - from) (drop from texts)
