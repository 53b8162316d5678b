-- What a message may have besides, each behind the last.
use mathlib.Core.List.{◌++◌}
use Rattle.octets.specs.Words.{◌≤?◌}
use Rattle.octets.specs.Field.{given_print}
use Rattle.layout.specs.Layout.{fragment, stream, headers_if, options}
use Rattle.datagram_head.proofs.Puts.{first-room, next-room, both}
use Rattle.datagram_head.proofs.groups.put_options.Goals as goal

pub put_fragment-a-requires : goal.put_fragment-a-requires
unfolding options
put_fragment-a-requires c =
    let m = c.args.m.now in
    let a = given_print fragment m.fields.fragment in
    let b = given_print stream m.fields.stream in
    let d = ((headers_if (1 ≤? m.fields.headers.count)).print m.fields.headers) in
    first-room a (b ++ d) c.requires

pub put_stream-b-requires : goal.put_stream-b-requires
unfolding options
put_stream-b-requires c =
    let m = c.args.m.now in
    let a = given_print fragment m.fields.fragment in
    let b = given_print stream m.fields.stream in
    let d = ((headers_if (1 ≤? m.fields.headers.count)).print m.fields.headers) in
    first-room b d (next-room {a = a} (b ++ d) c.put_fragment-a.ensures c.requires)

pub put_headers-requires : goal.put_headers-requires
unfolding options
put_headers-requires c =
    let m = c.args.m.now in
    let a = given_print fragment m.fields.fragment in
    let b = given_print stream m.fields.stream in
    let d = ((headers_if (1 ≤? m.fields.headers.count)).print m.fields.headers) in
    next-room {a = b} d c.put_stream-b.ensures (next-room {a = a} (b ++ d) c.put_fragment-a.ensures c.requires)

pub returns : goal.returns
unfolding options
returns c =
    let m = c.args.m.now in
    let a = given_print fragment m.fields.fragment in
    let b = given_print stream m.fields.stream in
    let d = ((headers_if (1 ≤? m.fields.headers.count)).print m.fields.headers) in
    both {a = a} {b = b ++ d} c.requires c.put_fragment-a.ensures (both {a = b} {b = d} (next-room {a = a} (b ++ d) c.put_fragment-a.ensures c.requires) c.put_stream-b.ensures c.put_headers.ensures)
