-- Two texts, which are a callsign and a stream id.
use mathlib.Core.Path.{ap}
use native.Mathlib.Omega.{arith}
use Rattle.records.specs.Record.{text}
use Rattle.records.proofs.Found.{missed, found, missed_at, found_at, shown, key-none, key-start, key-no-id, key-room, key-not, key-yes}
use Rattle.records.proofs.parts.read_key.Goals as goal

pub returns-in_err-originator : goal.returns-in_err-originator
returns-in_err-originator c = rw (c.from_residual.ensures, key-none c.args.d.now (missed (λ l. l) (text.parse c.args.d.now) _ (ap shown c.in_err-originator.was) c.read_text.ensures))

pub slice_bounds-read_text-count : goal.slice_bounds-read_text-count
slice_bounds-read_text-count c =
    key-start c.args.d.now _ _ (found (text.parse c.args.d.now) _ _ _ (ap shown c.in_ok-originator.was) c.read_text.ensures)

pub slice_bounds-read_text-start : goal.slice_bounds-read_text-start
slice_bounds-read_text-start c =
    key-start c.args.d.now _ _ (found (text.parse c.args.d.now) _ _ _ (ap shown c.in_ok-originator.was) c.read_text.ensures)

pub returns-in_err-stream_id : goal.returns-in_err-stream_id
returns-in_err-stream_id c =
    let a = found (text.parse c.args.d.now) _ _ _ (ap shown c.in_ok-originator.was) c.read_text.ensures in
    let b = missed_at text.parse c.in_ok-originator.n c.args.d.now (λ l. l) _ (ap shown c.in_err-stream_id.was) c.read_text-2.ensures in
    rw (c.from_residual-in_err-stream_id.ensures, key-no-id c.args.d.now _ _ a b)

pub returns-in_err-key : goal.returns-in_err-key
returns-in_err-key c =
    let a = found (text.parse c.args.d.now) _ _ _ (ap shown c.in_ok-originator.was) c.read_text.ensures in
    let b = found_at text.parse c.in_ok-originator.n c.args.d.now _ _ _ (ap shown c.in_ok-stream_id.was) c.read_text-2.ensures in
    rw (c.from_residual-in_err-key.ensures, key-not c.args.d.now _ _ a _ _ b c.name.result c.name.ensures c.in_err-key.ensures.value)

pub overflow_add-result : goal.overflow_add-result
overflow_add-result c =
    let a = found (text.parse c.args.d.now) _ _ _ (ap shown c.in_ok-originator.was) c.read_text.ensures in
    let b = found_at text.parse c.in_ok-originator.n c.args.d.now _ _ _ (ap shown c.in_ok-stream_id.was) c.read_text-2.ensures in
    omega (arith, key-room c.args.d.now _ _ a _ _ b)

pub returns : goal.returns
returns c =
    let a = found (text.parse c.args.d.now) _ _ _ (ap shown c.in_ok-originator.was) c.read_text.ensures in
    let b = found_at text.parse c.in_ok-originator.n c.args.d.now _ _ _ (ap shown c.in_ok-stream_id.was) c.read_text-2.ensures in
    rw (key-yes c.args.d.now _ _ a _ _ b c.name.result c.name.ensures _ c.in_ok-key.ensures.value)
