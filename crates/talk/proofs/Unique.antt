-- Every public function leaves one outcome and asks nothing.
use mathlib.Core.Path.{◌≡◌, refl, sym, ap, ◌∙◌}
use Rattle.octets.specs.Unique.{One, Free}
use Rattle.std.specs.Prelude.{Option, Some, None}
use Rattle.refusals.specs.declared.Refusal.{Refusal}
use Rattle.refusals.proofs.Told.{one-refusal, not-0}
use Rattle.talk.specs.declared.Event.{Event}
use Rattle.talk.specs.declared.Said.{Said}
use Rattle.talk.specs.Answer.{Telling, happened, says, reason_in}
use Rattle.talk.proofs.keep_rules.Kinds as keep-rules-kinds
use Rattle.talk.proofs.keep_rules.Reads as keep-rules-reads
use Rattle.talk.proofs.listening.Kinds as listening-kinds
use Rattle.talk.proofs.listening.Reads as listening-reads
use Rattle.talk.proofs.closed.Kinds as closed-kinds
use Rattle.talk.proofs.closed.Reads as closed-reads
use Rattle.talk.proofs.no_line.Kinds as no-line-kinds
use Rattle.talk.proofs.no_line.Reads as no-line-reads
use Rattle.talk.proofs.hear_line.Kinds as hear-line-kinds
use Rattle.talk.proofs.hear_line.Reads as hear-line-reads
use Rattle.talk.proofs.hear_data.Kinds as hear-data-kinds
use Rattle.talk.proofs.hear_data.Reads as hear-data-reads
use Rattle.talk.proofs.hear_payload.Kinds as hear-payload-kinds
use Rattle.talk.proofs.hear_payload.Reads as hear-payload-reads

one-reason : (x y : Option Refusal) → reason_in x ≡ reason_in y → x ≡ y
one-reason None None e = refl
one-reason None (Some r) e = absurd (not-0 r (sym e))
one-reason (Some r) None e = absurd (not-0 r e)
one-reason (Some r) (Some s) e = ap {B = Option Refusal} (λ (t : Refusal). Some t) (one-refusal r s e)

-- what an event says is said by that event only
pub one-event : (x y : Event) → happened x ≡ happened y → x ≡ y
one-event Event.Nothing Event.Nothing e = refl
one-event Event.Nothing (Event.Offer u) e = cc
one-event Event.Nothing (Event.Message u) e = cc
one-event Event.Nothing (Event.End u) e = cc
one-event (Event.Offer t) Event.Nothing e = cc
one-event (Event.Offer t) (Event.Offer u) e = cc
one-event (Event.Offer t) (Event.Message u) e = cc
one-event (Event.Offer t) (Event.End u) e = cc
one-event (Event.Message t) Event.Nothing e = cc
one-event (Event.Message t) (Event.Offer u) e = cc
one-event (Event.Message t) (Event.Message u) e = cc
one-event (Event.Message t) (Event.End u) e = cc
one-event (Event.End t) Event.Nothing e = cc
one-event (Event.End t) (Event.Offer u) e = cc
one-event (Event.End t) (Event.Message u) e = cc
one-event (Event.End t) (Event.End u) e = let r = one-reason t.reason u.reason (let n : reason_in t.reason ≡ reason_in u.reason = cc in n) in λ i. Event.End (record { reason = r i })

pub one-said : (x y : Said) → says x ≡ says y → x ≡ y
one-said x y e =
    let v = one-event x.event y.event (ap (λ (t : Telling). t.happening.what) e) in
    λ i. record { written = (e i).written; event = v i; line = (e i).happening.line; session = (e i).next }

pub listening-one : One 0 listening-kinds.ps listening-kinds.r listening-reads.Post
listening-one κs a x y v w p q = (p ∙ sym q, refl)

pub listening-free : Free 0 listening-kinds.ps listening-reads.Pre
listening-free κs a = tt

pub closed-one : One 0 closed-kinds.ps closed-kinds.r closed-reads.Post
closed-one κs a x y v w p q = (p ∙ sym q, refl)

pub closed-free : Free 0 closed-kinds.ps closed-reads.Pre
closed-free κs a = tt

pub keep-rules-one : One 0 keep-rules-kinds.ps keep-rules-kinds.r keep-rules-reads.Post
keep-rules-one κs a x y v w p q = (p ∙ sym q, refl)

pub keep-rules-free : Free 0 keep-rules-kinds.ps keep-rules-reads.Pre
keep-rules-free κs a = tt

pub no-line-one : One 0 no-line-kinds.ps no-line-kinds.r no-line-reads.Post
no-line-one κs a x y v w p q = (p ∙ sym q, refl)

pub no-line-free : Free 0 no-line-kinds.ps no-line-reads.Pre
no-line-free κs a = tt

pub hear-line-one : One 2 hear-line-kinds.ps hear-line-kinds.r hear-line-reads.Post
hear-line-one κs a x y v w p q = (one-said x y (p.0 ∙ sym q.0), λ i. (tt, ((p.1 ∙ sym q.1) i, tt)))

pub hear-line-free : Free 2 hear-line-kinds.ps hear-line-reads.Pre
hear-line-free κs a = tt

pub hear-data-one : One 2 hear-data-kinds.ps hear-data-kinds.r hear-data-reads.Post
hear-data-one κs a x y v w p q = (one-said x y (p.0 ∙ sym q.0), λ i. (tt, (tt, ((p.1 ∙ sym q.1) i, tt))))

pub hear-data-free : Free 2 hear-data-kinds.ps hear-data-reads.Pre
hear-data-free κs a = tt

pub hear-payload-one : One 1 hear-payload-kinds.ps hear-payload-kinds.r hear-payload-reads.Post
hear-payload-one κs a x y v w p q = (one-said x y (p.0 ∙ sym q.0), λ i. (tt, (tt, ((p.1 ∙ sym q.1) i, tt))))

pub hear-payload-free : Free 1 hear-payload-kinds.ps hear-payload-reads.Pre
hear-payload-free κs a = tt
