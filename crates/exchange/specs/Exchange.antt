-- Document 01, "The receiving session": the whole case.
use Rattle.std.specs.Prelude.{ℕ, List, [], ◌∷◌, ◌++◌}
use Rattle.session.specs.Calls.{open_of, open_reply}
use Rattle.exchange.specs.Host.{Lent, sees}

-- what a peer hears in all: the reply of an opening with this room, then those of the calls
abbrev pub hears : ℕ → List Lent → List ℕ
hears room cs = open_reply room ++ (sees (open_of room).next cs).reply

-- `who` LF `quit` LF, and `DAPPSv1>` LF `eh?` LF `DAPPSv1>` LF `bye` LF
abbrev pub who_quit : List ℕ
who_quit = 119 ∷ 104 ∷ 111 ∷ 10 ∷ 113 ∷ 117 ∷ 105 ∷ 116 ∷ 10 ∷ []

abbrev pub who_quit_heard : List ℕ
who_quit_heard = 68 ∷ 65 ∷ 80 ∷ 80 ∷ 83 ∷ 118 ∷ 49 ∷ 62 ∷ 10 ∷ 101 ∷ 104 ∷ 63 ∷ 10 ∷ 68 ∷ 65 ∷ 80 ∷ 80 ∷ 83 ∷ 118 ∷ 49 ∷ 62 ∷ 10 ∷ 98 ∷ 121 ∷ 101 ∷ 10 ∷ []
