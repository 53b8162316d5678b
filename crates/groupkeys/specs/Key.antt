-- Document 01, "Fragments": "a group's key is originator (may be absent) and master id". What a key is, when two are equal, and the rules that it keeps.
use Rattle.std.specs.Prelude.{ℕ, Bool, true, false, List, length, take, drop, replicate, Option, Some, None, Result, Ok, Err, if◌then◌else◌}
use Rattle.octets.specs.Words.{◌and◌, no, ◌≤?◌, ◌=?◌}
use Rattle.octets.specs.Bytes.{all_zero, front}
use Rattle.refusals.specs.declared.Refusal.{Refusal}
use Rattle.field_rules.specs.Rules.{id_in}
use Rattle.callsigns.specs.Callsign.{callsign, same_call}
use Rattle.groupkeys.specs.declared.Key.{Key}

-- the originator that a key holds
abbrev pub originator_of : Key → List ℕ
originator_of k = take k.originator_len k.originator

-- two originators are equal: both are absent, or both are there and are equal callsigns
abbrev pub same_originator : Key → Key → Bool
same_originator j k = if j.has_originator then k.has_originator and same_call (originator_of j) (originator_of k) else no k.has_originator

-- THE EQUALITY of keys: the originators are equal, and the master ids are
unfoldable pub same_key : Key → Key → Bool
same_key j k = j.master =? k.master and same_originator j k

-- a master id is an id: 7 hex digits
abbrev pub is_master : ℕ → Bool
is_master n = id_in n

-- a key's originator is a callsign; an absent one has no bytes
abbrev pub keeps_originator : Bool → List ℕ → Bool
keeps_originator has s = if has then callsign s else length s =? 0

-- the state rules of a key (40): the originator, where there is one, is a callsign, the bytes past it are zero, and the master id is one
unfoldable pub keeps_key : Key → Bool
keeps_key k =
    length k.originator =? 12
    and k.originator_len ≤? 12
    and keeps_originator k.has_originator (originator_of k)
    and all_zero (drop k.originator_len k.originator)
    and is_master k.master

-- no group's key: all zero
abbrev pub no_key : Key
no_key = record { has_originator = false; originator = replicate 12 0; originator_len = 0; master = 0 }

-- the key of an originator, which may be absent, and a master id
abbrev pub key_of : Option (List ℕ) → ℕ → Key
key_of (Some o) master = record { has_originator = true; originator = front o (replicate 12 0); originator_len = length o; master = master }
key_of None master = record { has_originator = false; originator = replicate 12 0; originator_len = 0; master = master }

-- an originator is a callsign; it may be absent
abbrev pub is_originator : Option (List ℕ) → Bool
is_originator (Some o) = callsign o
is_originator None = true

-- the key that a call is given, or the refusal: 8 where the originator is no callsign, then 17 where the master id is malformed
unfoldable pub named_of : Option (List ℕ) → ℕ → Result Key Refusal
named_of originator master =
    if no (is_originator originator) then Err Refusal.NoCallsign
    else if no (is_master master) then Err Refusal.FragmentMalformed
    else Ok (key_of originator master)

-- the key that a call is given; no group's where it is refused
abbrev pub key_in : Result Key Refusal → Key
key_in (Ok k) = k
key_in (Err r) = no_key
