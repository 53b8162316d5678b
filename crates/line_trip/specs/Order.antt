-- Document 01, "The ihave line", the writer's order (H): len fmt s ttl src mid frag sid sn gt, headers, dst, chk.
use Rattle.std.specs.Prelude.{ℕ, ◌≡◌, List, [], ◌∷◌, ◌++◌, if◌then◌else◌}
use Rattle.names.specs.Reserved.{key_len, key_fmt, key_s, key_dst, key_chk, key_ttl, key_src, key_mid, key_frag, key_sid, key_sn, key_gt}
use Rattle.tokens.specs.Tokens.{Token, keys, present, others}

abbrev pub first_keys : List (List ℕ)
first_keys = key_len ∷ key_fmt ∷ key_s ∷ key_ttl ∷ key_src ∷ key_mid ∷ key_frag ∷ key_sid ∷ key_sn ∷ key_gt ∷ []

-- those of the keys that are there
abbrev pub present_among : List Token → List (List ℕ) → List (List ℕ)
present_among ts [] = []
present_among ts (k ∷ ks) = if present k ts then (k ∷ present_among ts ks) else present_among ts ks

-- the tokens come in the writer's order, `chk` among them
abbrev pub InOrder : List Token → Type 0
InOrder ts = keys ts ≡ present_among ts first_keys ++ (keys (others ts) ++ (key_dst ∷ key_chk ∷ []))
