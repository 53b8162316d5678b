-- Two bytes below 1024, as flags.
use Rattle.std.proofs.Common.{refl, lt-ltb, le-ltb}
use Rattle.octets.specs.Field.{num}
use Rattle.layout.specs.Layout.{flags}
use Rattle.datagram_numbers.proofs.Chains.{none-read, some-read}
use Rattle.datagram_numbers.proofs.numbers.read_flags.Goals as goal

pub returns-in_err-v : goal.returns-in_err-v
unfolding flags
returns-in_err-v c = rw (c.from_residual.ensures, none-read (λ n. n) ((num 2).parse c.args.d.now) c.read.result c.read.ensures c.in_err-v.was)

pub returns-then-v-lt1024 : goal.returns-then-v-lt1024
unfolding flags
returns-then-v-lt1024 c = rw (c.flags_of.ensures, some-read (λ n. n) (λ n. n) ((num 2).parse c.args.d.now) c.read.result c.in_ok-v.v c.in_ok-v.used (λ n. refl) c.read.ensures c.in_ok-v.was, lt-ltb c.in_ok-v.v 1024 c.if-v-lt1024.true)

pub returns : goal.returns
unfolding flags
returns c = rw (some-read (λ n. n) (λ n. n) ((num 2).parse c.args.d.now) c.read.result c.in_ok-v.v c.in_ok-v.used (λ n. refl) c.read.ensures c.in_ok-v.was, le-ltb c.in_ok-v.v 1024 c.if-v-lt1024.false)
