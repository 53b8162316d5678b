-- The prompt, where there is room for every reply.
use borrow.Author.Rules.{rules}
use Rattle.replies.specs.Replies.{reply_text}
use Rattle.session.proofs.Tests as tests
use Rattle.session.proofs.open_session.Goals as goal

pub returns-then-reply-lt-LONGEST_REPLY : goal.returns-then-reply-lt-LONGEST_REPLY
returns-then-reply-lt-LONGEST_REPLY c = tests.open-short c.args.reply.now _ (search rules) c.closed.ensures

pub returns : goal.returns
unfolding reply_text
returns c = tests.open-long c.args.reply.now _ _ _ (search rules) c.listening.ensures c.say-written.ensures
