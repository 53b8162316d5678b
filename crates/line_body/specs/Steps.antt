-- What the private functions promise one another; no public promise speaks of it.
use Rattle.std.specs.Prelude.{ℕ, List, [], ◌∷◌, ◌++◌}
use Rattle.tokens.specs.Tokens.{Token, space, equals}
use Rattle.line_draft.specs.Drafts.{added}
use Rattle.line_draft.specs.declared.Draft.{Draft}

-- a space, a key and `=`
abbrev pub key_part : List ℕ → List ℕ
key_part k = space ∷ (k ++ (equals ∷ []))

-- a key and a value more
abbrev pub add_pair : List ℕ → List ℕ → Draft → Draft
add_pair k v d = added v (added k d)

-- tokens more
unfoldable pub add_tokens : List Token → Draft → Draft
add_tokens [] d = d
add_tokens (t ∷ ts) d = add_tokens ts (added t.value (added (key_part t.key) d))
