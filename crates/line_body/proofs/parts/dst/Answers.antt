-- The destination: the first bytes of its array.
use Rattle.names.specs.Reserved.{key_dst}
use Rattle.envelope.specs.Rules.{address_bytes}
use Rattle.tokens.specs.Tokens.{token}
use Rattle.line_draft.proofs.Drafts.{adds-as}
use Rattle.line_body.proofs.Drafts.{one_token}
use Rattle.line_body.proofs.parts.dst.Goals as goal

pub returns : goal.returns
returns c = adds-as (λ d. one_token (token key_dst (address_bytes c.args.t)) d) (rw c.part.ensures at c.text.ensures)
