-- The eight bytes that spell how many bits there were.
use Rattle.std.proofs.Common.{◌≡◌, ◌*◌, ◌%◌, ◌^◌, ap, ◌∙◌, arith}
use Rattle.sha1_digest.specs.Sha1 as fips
use Rattle.sha1_digest.specs.Machine.{fed_all}
use Rattle.sha1_digest.proofs.AnyPieces.{low-bytes}
use Rattle.sha1_digest.proofs.pieces.close.Goals as goal

pub returns : goal.returns
returns c = let e : (c.args.total * 2 ^ 3) % 2 ^ 64 ≡ 8 * c.args.total % 2 ^ 64 = omega arith in
    let b : c.to_be_bytes.result ≡ fips.big64 ((c.args.total * 2 ^ 3) % 2 ^ 64) = c.to_be_bytes.ensures in
    ap (λ st. st.h) (c.put.ensures ∙ ap (fed_all c.args.st) b ∙ ap (fed_all c.args.st) (ap fips.big64 e ∙ low-bytes (8 * c.args.total)))
