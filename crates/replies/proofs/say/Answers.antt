-- Each reply's own text.
use Rattle.replies.proofs.Joins.{says, silent, token-said}
use Rattle.replies.specs.declared.Reply.{Reply}
use Rattle.replies.specs.Replies.{reply_text}
use Rattle.replies.proofs.say.Goals as goal

pub returns-in-Silence : goal.returns-in-Silence
unfolding reply_text
returns-in-Silence c = says c.args.reply Reply.Silence c.args.s.now 0 c.args.out.now c.args.out.now c.in-Silence.is (silent c.args.out.now)

pub returns-in-Prompt : goal.returns-in-Prompt
unfolding reply_text
returns-in-Prompt c = says c.args.reply Reply.Prompt c.args.s.now _ c.args.out.now _ c.in-Prompt.is c.put.ensures

pub returns-in-Send : goal.returns-in-Send
unfolding reply_text
returns-in-Send c = says c.args.reply (Reply.Send _) c.args.s.now _ c.args.out.now _ c.in-Send.is c.put_id.ensures

pub returns-in-Error : goal.returns-in-Error
unfolding reply_text
returns-in-Error c = says c.args.reply Reply.Error c.args.s.now _ c.args.out.now _ c.in-Error.is c.put-in-Error.ensures

pub returns-in-ErrorToken : goal.returns-in-ErrorToken
unfolding reply_text
returns-in-ErrorToken c = says c.args.reply Reply.ErrorToken c.args.s.now _ c.args.out.now _ c.in-ErrorToken.is (token-said c.args.s.now _ _ c.args.out.now _ c.token.ensures c.put_error.ensures)

pub returns-in-Ack : goal.returns-in-Ack
unfolding reply_text
returns-in-Ack c = says c.args.reply (Reply.Ack _) c.args.s.now _ c.args.out.now _ c.in-Ack.is c.put_id-in-Ack.ensures

pub returns-in-Bad : goal.returns-in-Bad
unfolding reply_text
returns-in-Bad c = says c.args.reply (Reply.Bad _) c.args.s.now _ c.args.out.now _ c.in-Bad.is c.put_id-in-Bad.ensures

pub returns-in-Bye : goal.returns-in-Bye
unfolding reply_text
returns-in-Bye c = says c.args.reply Reply.Bye c.args.s.now _ c.args.out.now _ c.in-Bye.is c.put-in-Bye.ensures

pub returns-in-Help : goal.returns-in-Help
unfolding reply_text
returns-in-Help c = says c.args.reply Reply.Help c.args.s.now _ c.args.out.now _ c.in-Help.is c.put-in-Help.ensures

pub returns-in-Eh : goal.returns-in-Eh
unfolding reply_text
returns-in-Eh c = says c.args.reply Reply.Eh c.args.s.now _ c.args.out.now _ c.in-Eh.is c.put-in-Eh.ensures
