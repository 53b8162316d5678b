-- The line is the word, or goes on with a space.
use Rattle.std.proofs.Common.{sym, ap, ◌<◌, ◌+◌, ◌∙◌, ◌≡◌, ℕ, List, get_or, length, arith}
use Rattle.std.proofs.lemmas.Grind.{common_steps}
use Rattle.std.proofs.lemmas.List.{get_or-drop}
use Rattle.octets.specs.Words.{◌=?◌}
use Rattle.phrases.proofs.Verbs.{verb-not, verb-more}
use Rattle.phrases.proofs.lines.is_verb.Goals as goal

pub returns-else-is_empty : goal.returns-else-is_empty
returns-else-is_empty c = let k = c.in-Some.ensures.cases in
    let n = length c.args.word.now in
    let more : length c.args.word.now < length c.args.s.now = grind (arith, common_steps) in
    let z : n + 0 ≡ n = omega arith in
    let first : get_or c.in-Some.rest.now 0 0 ≡ get_or c.args.s.now n 0 = ap (λ (l : List ℕ). get_or l 0 0) k.1 ∙ get_or-drop n c.args.s.now 0 0 ∙ ap (λ (i : ℕ). get_or c.args.s.now i 0) z in
    ap (λ (x : ℕ). x =? 32) first ∙ sym (verb-more c.args.word.now c.args.s.now k.0 more)

pub returns-in-None : goal.returns-in-None
returns-in-None c = sym (verb-not c.args.word.now c.args.s.now c.in-None.ensures.cases)
