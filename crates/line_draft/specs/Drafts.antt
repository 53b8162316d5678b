-- A line as it is put together in an array of 512 bytes.
use Rattle.std.specs.Prelude.{ℕ, ◌+◌, ◌≡◌, Bool, List, length, replicate, if◌then◌else◌}
use Rattle.octets.specs.Words.{◌≤?◌}
use Rattle.octets.specs.Bytes.{fits, placed}
use Rattle.line_draft.specs.declared.Draft.{Draft}

-- the place behind w; 513 where w does not fit from the place `at` on
abbrev pub behind : List ℕ → ℕ → List ℕ → ℕ
behind w at buffer = if fits w at buffer then at + length w else 513

-- n bytes more, which stand there already, or did not fit
abbrev pub grown : Bool → ℕ → Draft → Draft
grown put n d = record { bytes = d.bytes; len = if put then d.len + n else 513 }

-- nothing yet
abbrev pub no_draft : Draft
no_draft = record { bytes = replicate 512 0; len = 0 }

-- full: blank, with a length past the array's end, where nothing fits
abbrev pub full_draft : Draft
full_draft = record { bytes = replicate 512 0; len = 513 }

-- the draft that an array and a place are: full, past the array's end
unfoldable pub draft : List ℕ → ℕ → Draft
draft buffer at = if at ≤? 512 then record { bytes = buffer; len = at } else full_draft

-- bytes more
unfoldable pub added : List ℕ → Draft → Draft
added w d = if fits w d.len d.bytes then record { bytes = placed w d.len d.bytes; len = d.len + length w } else full_draft

-- what a call that puts into the array does to the draft; the array keeps its length
pub record Adds (f : Draft → Draft) (l : List ℕ) (at r : ℕ) (x : List ℕ) : Type 0 where
  pub draft-is : length l ≡ 512 → draft x r ≡ f (draft l at)
  pub long : length x ≡ length l
