-- Document 01's whole case, through an opening and calls whose buffers are not refused, however the peer's bytes are cut; and there are such calls.
use mathlib.Core.Path.{◌≡◌, refl, ap, ◌∙◌, subst}
use Prim.Native.Nat.{ℕ, ◌≤◌}
use native.Mathlib.Omega.{arith}
use mathlib.Core.List.{List, ◌++◌}
use lib.ListN.{replicate, length-replicate}
use borrow.Author.Tests.{le-ltb}
use Rattle.octets.proofs.Tests.{if_no}
use Rattle.phrases.specs.Lines.{verb, spells, kind_of}
use Rattle.replies.specs.Replies.{prompt}
use Rattle.machine.specs.Machine.{Seen, seen}
use Rattle.talk.specs.declared.Session.{Session}
use Rattle.talk.specs.Answer.{Happening}
use Rattle.talk.specs.Sessions.{listening}
use Rattle.talk.specs.Talk.{heard}
use Rattle.session.specs.Feed.{feed}
use Rattle.session.specs.Answer.{Opening}
use Rattle.session_rules.specs.Rules.{keeps_session}
use Rattle.session.specs.Calls.{open_of, open_reply}
use Rattle.exchange.specs.Host.{Lent, reports, sees, Goes}
use Rattle.exchange.specs.Exchange.{hears, who_quit, who_quit_heard}
use Rattle.exchange.proofs.Keeps.{listening-keeps}
use Rattle.exchange.proofs.Cuts.{through-a-stream, a-host}

opens : (room : ℕ) → 24 ≤ room → ((open_of room).next ≡ listening) × (open_reply room ≡ prompt)
unfolding open_of open_reply
opens room h = (ap (λ (o : Opening). o.next) (if_no _ _ _ (le-ltb room 24 h)), if_no _ _ _ (le-ltb room 24 h))

said : prompt ++ (seen feed reports listening who_quit).reply ≡ who_quit_heard
unfolding verb spells kind_of heard feed
said = refl

pub whole-case : (room : ℕ) (cs : List Lent) → 24 ≤ room → Goes (open_of room).next who_quit cs → hears room cs ≡ who_quit_heard
whole-case room cs h g =
    let o = opens room h in
    let t = through-a-stream listening who_quit cs (subst (λ (s : Session). Goes s who_quit cs) o.0 g) in
    (λ i. o.1 i ++ (sees (o.0 i) cs).reply) ∙ ap (λ (x : Seen Session Happening). prompt ++ x.reply) t ∙ said

pub whole-case-met : (cs : List Lent) × Goes (open_of 24).next who_quit cs
whole-case-met = a-host (λ n. replicate 4096 0) (λ n. 24) (λ n. rw length-replicate (omega arith)) (λ n. omega arith) (open_of 24).next who_quit (ap keeps_session (opens 24 (omega arith)).0 ∙ listening-keeps)
