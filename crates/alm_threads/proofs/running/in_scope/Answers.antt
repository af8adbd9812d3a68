use Rattle.std.proofs.Common.{◌∙◌, ap, sym, rules}
use Rattle.alm_threads.proofs.running.in_scope.Goals as goal

pub scoped-requires : goal.scoped-requires
scoped-requires g c = record {
  at = λ a. (
    (c.requires.serves, c.requires.tied, c.requires.base ∙ ap (λ b. g.B.Board.base b) (sym c.new-closing.ensures), ap (λ b. g.B.Board.published b) c.new-closing.ensures ∙ c.requires.fresh.0, ap (λ b. g.B.Board.pending b) c.new-closing.ensures ∙ c.requires.fresh.1, ap (λ b. g.B.Board.logged b) c.new-closing.ensures ∙ c.requires.fresh.2, c.requires.room.0, c.requires.room.1, c.requires.room.2, c.requires.room.3),
    search rules,
  );
}
