use Rattle.std.proofs.Common.{Bool, true, false, List, ℕ, [], ◌∷◌, ◌++◌, sym, subst, ap, ◌∙◌}
use Rattle.std.specs.Prelude.{◌==◌}
use Rattle.std.proofs.lemmas.Bool.{ne_eqb}
use Rattle.alm_serve.specs.Http.{is_break}
use Rattle.alm_serve.specs.Beginnings.{KnowsLine}
use Rattle.alm_serve.proofs.Beginnings.{after_line, before_line, is_no_break, is_break_before, line_ends, word_ends, word_goes_on}
use Rattle.alm_serve.proofs.first_line.FirstLine.take_byte.Goals as goal

pub returns-then-self : goal.returns-then-self
returns-then-self c = λ came knows.
    let s = c.args.self.now in
    subst (λ (e : Bool). KnowsLine (came ++ c.args.byte ∷ []) s.has_begun e s.has_space s.word.items) (sym c.if-self.true)
    (after_line came c.args.byte s.has_begun s.has_space s.word.items (subst (λ (e : Bool). KnowsLine came s.has_begun e s.has_space s.word.items) c.if-self.true knows))

pub returns-then-not-is_text : goal.returns-then-not-is_text
returns-then-not-is_text c = λ came knows.
    let s = c.args.self.now in
    let both = is_break_before s.has_begun (is_break c.args.byte) (sym c.is_text.ensures ∙ c.if-not-is_text.true) in
    subst (λ (t : Bool). KnowsLine (came ++ c.args.byte ∷ []) t s.has_ended s.has_space s.word.items) (sym both.0)
    (before_line came c.args.byte s.has_ended s.has_space s.word.items both.1 (subst (λ (t : Bool). KnowsLine came t s.has_ended s.has_space s.word.items) both.0 knows))

pub returns-then-byte-eq10 : goal.returns-then-byte-eq10
returns-then-byte-eq10 c = λ came knows.
    let s = c.args.self.now in
    line_ends came c.args.byte s.has_begun s.has_space s.word.items (subst (λ (e : Bool). KnowsLine came s.has_begun e s.has_space s.word.items) c.if-self.false knows)
    (is_no_break s.has_begun (is_break c.args.byte) (sym c.is_text.ensures ∙ c.if-not-is_text.false)) (ap (λ (b : ℕ). b == 10) c.if-byte-eq10.true)

pub returns-then-byte-eq32 : goal.returns-then-byte-eq32
returns-then-byte-eq32 c = λ came knows.
    let s = c.args.self.now in
    let text = is_no_break s.has_begun (is_break c.args.byte) (sym c.is_text.ensures ∙ c.if-not-is_text.false) in
    subst (λ (e : Bool). KnowsLine (came ++ c.args.byte ∷ []) true e true c.clear.new.self.items) (sym c.if-self.false)
    (subst (λ (w : List ℕ). KnowsLine (came ++ c.args.byte ∷ []) true false true w) (sym c.clear.ensures)
    (word_ends came c.args.byte s.has_begun s.has_space s.word.items (subst (λ (e : Bool). KnowsLine came s.has_begun e s.has_space s.word.items) c.if-self.false knows) text
    (ne_eqb c.args.byte 10 c.if-byte-eq10.false) (ap (λ (b : ℕ). b == 32) c.if-byte-eq32.true)))

pub returns-else-byte-eq32 : goal.returns-else-byte-eq32
returns-else-byte-eq32 c = λ came knows.
    let s = c.args.self.now in
    let text = is_no_break s.has_begun (is_break c.args.byte) (sym c.is_text.ensures ∙ c.if-not-is_text.false) in
    subst (λ (e : Bool). KnowsLine (came ++ c.args.byte ∷ []) true e s.has_space c.keep.new.kept.items) (sym c.if-self.false)
    (word_goes_on came c.args.byte s.has_begun s.has_space s.word.items (subst (λ (e : Bool). KnowsLine came s.has_begun e s.has_space s.word.items) c.if-self.false knows) text
    (ne_eqb c.args.byte 10 c.if-byte-eq10.false) (ne_eqb c.args.byte 32 c.if-byte-eq32.false) c.keep.new.kept.items c.keep.ensures)
