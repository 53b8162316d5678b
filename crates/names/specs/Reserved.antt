-- Document 01, "Names and fields": the thirteen reserved keys.
use Rattle.std.specs.Prelude.{ℕ, suc, Bool, List, [], ◌∷◌, take, if◌then◌else◌}
use Rattle.octets.specs.Words.{some}
use Rattle.octets.specs.Bytes.{same}
use Rattle.names.specs.declared.Word.{Word}

-- their spellings, in the paper's order
abbrev pub key_len : List ℕ
key_len = 108 ∷ 101 ∷ 110 ∷ []

abbrev pub key_fmt : List ℕ
key_fmt = 102 ∷ 109 ∷ 116 ∷ []

abbrev pub key_s : List ℕ
key_s = 115 ∷ []

abbrev pub key_clen : List ℕ
key_clen = 99 ∷ 108 ∷ 101 ∷ 110 ∷ []

abbrev pub key_dst : List ℕ
key_dst = 100 ∷ 115 ∷ 116 ∷ []

abbrev pub key_chk : List ℕ
key_chk = 99 ∷ 104 ∷ 107 ∷ []

abbrev pub key_ttl : List ℕ
key_ttl = 116 ∷ 116 ∷ 108 ∷ []

abbrev pub key_src : List ℕ
key_src = 115 ∷ 114 ∷ 99 ∷ []

abbrev pub key_mid : List ℕ
key_mid = 109 ∷ 105 ∷ 100 ∷ []

abbrev pub key_frag : List ℕ
key_frag = 102 ∷ 114 ∷ 97 ∷ 103 ∷ []

abbrev pub key_sid : List ℕ
key_sid = 115 ∷ 105 ∷ 100 ∷ []

abbrev pub key_sn : List ℕ
key_sn = 115 ∷ 110 ∷ []

abbrev pub key_gt : List ℕ
key_gt = 103 ∷ 116 ∷ []

unfoldable pub reserved_keys : List (List ℕ)
reserved_keys = key_len ∷ key_fmt ∷ key_s ∷ key_clen ∷ key_dst ∷ key_chk ∷ key_ttl ∷ key_src ∷ key_mid ∷ key_frag ∷ key_sid ∷ key_sn ∷ key_gt ∷ []

-- a key is reserved: it is one of them, byte for byte
unfoldable pub reserved : List ℕ → Bool
reserved k = some (same k) reserved_keys

-- a text's place among texts: how many stand before it, all of them where it is not there
unfoldable pub place_in : List (List ℕ) → List ℕ → ℕ
place_in [] k = 0
place_in (x ∷ xs) k = if same k x then 0 else suc (place_in xs k)

unfoldable pub key_place : List ℕ → ℕ
key_place k = place_in reserved_keys k

-- what a padded spelling says: its first len bytes
unfoldable pub spelling : Word → List ℕ
spelling w = take w.len w.text
