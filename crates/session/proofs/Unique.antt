-- Every public function leaves one outcome and asks nothing.
use mathlib.Core.Path.{◌≡◌, refl, sym, ap, ◌∙◌}
use Rattle.octets.specs.Unique.{One, Free}
use Rattle.talk.proofs.Unique.{one-event}
use Rattle.std.specs.Prelude.{Result, Ok, Err}
use Rattle.refusals.specs.declared.Refusal.{Refusal}
use Rattle.refusals.specs.Refusals.{number_of}
use Rattle.refusals.proofs.Told.{one-refusal}
use Rattle.session.specs.declared.Step.{Step}
use Rattle.session.specs.declared.Opened.{Opened}
use Rattle.session.specs.Answer.{Record, Opening, answering, says, opened_says}
use Rattle.session.proofs.open_session.Kinds as open-session-kinds
use Rattle.session.proofs.open_session.Reads as open-session-reads
use Rattle.session.proofs.feed.Kinds as feed-kinds
use Rattle.session.proofs.feed.Reads as feed-reads

-- what an answer says is said by that answer only
one-stepping : (x y : Result (Unit {0}) Refusal) → answering x ≡ answering y → x ≡ y
one-stepping (Ok x) (Ok y) e = refl
one-stepping (Ok x) (Err r) e = cc
one-stepping (Err r) (Ok x) e = cc
one-stepping (Err r) (Err s) e = let n : number_of r ≡ number_of s = cc in ap {B = Result (Unit {0}) Refusal} (λ (v : Refusal). Err v) (one-refusal r s n)

one-step : (x y : Step) → says x ≡ says y → x ≡ y
one-step x y e =
    let a = one-stepping x.stepping y.stepping (ap (λ (r : Record). r.answer) e) in
    let v = one-event x.event y.event (ap (λ (r : Record). r.happening.what) e) in
    λ i. record { stepping = a i; used = (e i).used; event = v i; written = (e i).written; line = (e i).happening.line; session = (e i).next }

one-opened : (x y : Opened) → opened_says x ≡ opened_says y → x ≡ y
one-opened x y e = let a = one-stepping x.stepping y.stepping (ap (λ (r : Opening). r.answer) e) in λ i. record { stepping = a i; written = (e i).written; session = (e i).next }

pub open-session-one : One 1 open-session-kinds.ps open-session-kinds.r open-session-reads.Post
open-session-one κs a x y v w p q = (one-opened x y (p.0 ∙ sym q.0), λ i. ((p.1 ∙ sym q.1) i, tt))

pub open-session-free : Free 1 open-session-kinds.ps open-session-reads.Pre
open-session-free κs a = tt

pub feed-one : One 3 feed-kinds.ps feed-kinds.r feed-reads.Post
feed-one κs a x y v w p q = (one-step x y (p.0 ∙ sym q.0), λ i. (tt, (tt, ((p.1 ∙ sym q.1) i, ((p.2 ∙ sym q.2) i, tt)))))

pub feed-free : Free 3 feed-kinds.ps feed-reads.Pre
feed-free κs a = tt
