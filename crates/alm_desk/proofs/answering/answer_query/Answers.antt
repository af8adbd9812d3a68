use Rattle.std.proofs.Common.{◌≡◌, sym, rules}
use Rattle.alm_lines.specs.Reply.{no_text}
use Rattle.alm_lines.specs.declared.ask.Ask.TheVariants.{Look}
use Rattle.alm_lines.proofs.Prefixes.{prints_same}
use Rattle.alm_desk.specs.Answers.{reply_on}
use Rattle.alm_desk.specs.declared.hindrance.Hindrance.TheVariants.{Nothing}
use Rattle.alm_desk.proofs.answering.answer_query.Goals as goal

pub returns-in-Err-clause-text : goal.returns-in-Err-clause-text
returns-in-Err-clause-text g c =
    let text : reply_on (g.B.Backend.stands c.args.backend.now) c.args.notebook.now.recent (record { slot = c.args.slot; line = record { id = c.args.id; ask = Look c.args.query } }) Nothing ≡ no_text c.args.id c.in-Err.refusal = search rules in
    prints_same _ _ _ _ (sym text) c.reply-in-Err.ensures.bytes
