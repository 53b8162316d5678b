-- Document 01, "The receiving session": what is said to the peer, LF included.
use Rattle.std.specs.Prelude.{ℕ, Bool, List, [], ◌∷◌, ◌++◌, length, drop, if◌then◌else◌}
use Rattle.octets.specs.Words.{◌and◌, every, between}
use Rattle.octets.specs.Bytes.{fits}
use Rattle.text.specs.Hex.{hex_digits}
use Rattle.tokens.specs.Cuts.{before}
use Rattle.replies.specs.declared.Reply.{Reply}
use Rattle.replies.specs.declared.Reply.TheVariants.{Silence, Prompt, Send, Error, ErrorToken, Ack, Bad, Bye, Help, Eh}

abbrev pub LF : List ℕ
LF = 10 ∷ []

-- `DAPPSv1>`
abbrev pub prompt : List ℕ
prompt = 68 ∷ 65 ∷ 80 ∷ 80 ∷ 83 ∷ 118 ∷ 49 ∷ 62 ∷ 10 ∷ []

-- `send ID`
abbrev pub sends : ℕ → List ℕ
sends id = (115 ∷ 101 ∷ 110 ∷ 100 ∷ 32 ∷ []) ++ (hex_digits 7 id ++ LF)

-- the token after `ihave `, and whether it is said again: 1 to 7 bytes, all 0x21 to 0x7E
abbrev pub error_token : List ℕ → List ℕ
error_token s = before 0x20 (drop 6 s)

unfoldable pub token_good : List ℕ → Bool
token_good t = between 1 7 (length t) and every (between 0x21 0x7E) t

-- `error T`, or `error` where there is no such token
abbrev pub 'error' : List ℕ
'error' = 101 ∷ 114 ∷ 114 ∷ 111 ∷ 114 ∷ []

abbrev pub errs : List ℕ → List ℕ
errs t = if token_good t then 'error' ++ (0x20 ∷ (t ++ LF)) else 'error' ++ LF

-- `ack ID` or `bad ID`; then the prompt
abbrev pub acks : ℕ → List ℕ
acks id = (97 ∷ 99 ∷ 107 ∷ 32 ∷ []) ++ (hex_digits 7 id ++ (LF ++ prompt))

abbrev pub bads : ℕ → List ℕ
bads id = (98 ∷ 97 ∷ 100 ∷ 32 ∷ []) ++ (hex_digits 7 id ++ (LF ++ prompt))

-- `bye`
abbrev pub bye : List ℕ
bye = 98 ∷ 121 ∷ 101 ∷ 10 ∷ []

-- `This is DAPPS.` and the prompt
abbrev pub help : List ℕ
help = 84 ∷ 104 ∷ 105 ∷ 115 ∷ 32 ∷ 105 ∷ 115 ∷ 32 ∷ 68 ∷ 65 ∷ 80 ∷ 80 ∷ 83 ∷ 46 ∷ 10 ∷ 68 ∷ 65 ∷ 80 ∷ 80 ∷ 83 ∷ 118 ∷ 49 ∷ 62 ∷ 10 ∷ []

-- `eh?` and the prompt
abbrev pub eh : List ℕ
eh = 101 ∷ 104 ∷ 63 ∷ 10 ∷ 68 ∷ 65 ∷ 80 ∷ 80 ∷ 83 ∷ 118 ∷ 49 ∷ 62 ∷ 10 ∷ []

-- the bytes of a reply to the line s
unfoldable pub reply_text : Reply → List ℕ → List ℕ
reply_text Silence s = []
reply_text Prompt s = prompt
reply_text (Send id) s = sends id
reply_text Error s = 'error' ++ LF
reply_text ErrorToken s = errs (error_token s)
reply_text (Ack id) s = acks id
reply_text (Bad id) s = bads id
reply_text Bye s = bye
reply_text Help s = help
reply_text Eh s = eh

-- how many bytes of a text stand in the buffer: all of them, or none
abbrev pub wrote : List ℕ → List ℕ → ℕ
wrote w buffer = if fits w 0 buffer then length w else 0
