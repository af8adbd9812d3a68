-- A connection from its beginning to its end.
use Rattle.std.proofs.Common.{◌≡◌, ℕ, ◌+◌, List, [], ◌∷◌, ◌++◌, length, refl, ap, sym, subst, ◌∙◌, arith}
use Rattle.std.specs.Prelude.{map}
use Rattle.std.specs.List.{flat_map}
use Rattle.std.proofs.lemmas.List.{append-nil}
use Rattle.alm_model.specs.Plant.{Condensed}
use Rattle.alm_lines.specs.declared.line.Line.{Line}
use Rattle.alm_session.specs.Intakes.{Untaken, lines_from, lines_in, open_in}
use Rattle.alm_session.specs.declared.unanswered.Unanswered.{Unanswered}
use Rattle.alm_session.specs.Turns.{waiting_kind, heards, answer_text, line_kind, kinds, unasked_receipts, SlotState, IsTurn, Looks}
use Rattle.alm_session.specs.Unanswered.{Heard}
use Rattle.alm_session.specs.Ended.{HaveSerials, IsNew, IsFinished, IsAnswered}
use Rattle.alm_session.proofs.Joins.{joined}

no_more : {X : Type 0} (xs : List X) → length xs ≡ 0 → xs ≡ []
no_more [] e = refl
no_more (x ∷ xs) e = (let bad : ◌≡◌ {A = ℕ} 1 0 = omega (arith, e) in cc)

behind_serials : (n : ℕ) (heards more : List Heard) → HaveSerials n (heards ++ more) → HaveSerials (n + length heards) more
behind_serials n [] more have = subst (λ (k : ℕ). HaveSerials k more) (let same : n ≡ n + 0 = omega arith in same) have
behind_serials n (h ∷ heards) more have =
    subst (λ (k : ℕ). HaveSerials k more) (let same : n + 1 + length heards ≡ n + length (h ∷ heards) = omega arith in same) (behind_serials (n + 1) heards more have.1)

pub answered_all : {looks : Looks} (base : Condensed) (n : ℕ) (a b : SlotState) → IsTurn looks base n a b → IsNew a → IsFinished b → IsAnswered looks base a b
answered_all {looks} base n a b p fresh finished =
    let taken : lines_from [] p.got ≡ p.taken =
    subst (λ (h : Untaken). lines_in h ++ lines_from (open_in h) p.got ≡ p.taken ++ lines_in b.held) fresh.0 p.lines
    ∙ ap (λ (l : List Line). p.taken ++ l) finished.0 ∙ append-nil p.taken in
    let order : map line_kind p.taken ≡ flat_map kinds p.met =
    subst (λ (w : List Unanswered). map waiting_kind w ++ map line_kind p.taken ≡ flat_map kinds p.met ++ map waiting_kind b.waiting) fresh.1 p.order
    ∙ ap (λ (w : List Unanswered). flat_map kinds p.met ++ map waiting_kind w) finished.1 ∙ append-nil (flat_map kinds p.met) in
    let text : flat_map (answer_text base) p.met ≡ p.wrote =
    subst (λ (l : List ℕ). l ++ flat_map (answer_text base) p.met ≡ p.wrote ++ b.left) fresh.2 p.text
    ∙ ap (λ (l : List ℕ). p.wrote ++ l) finished.2 ∙ append-nil p.wrote in
    record {
      got = p.got;
      met = p.met;
      read = p.read;
      lines = ap (map line_kind) taken ∙ order;
      written = p.written ∙ ap (λ (t : List ℕ). a.written ++ t) (sym text);
      heard = p.heard;
      learnt = p.learnt;
      serials = λ have. subst (λ (k : ℕ). HaveSerials k (flat_map heards p.met)) (let same : 1 + length a.heard ≡ length a.sent + 1 = omega (arith, fresh.3) in same)
          (behind_serials 1 a.heard (flat_map heards p.met) (subst (λ (l : List Heard). HaveSerials 1 l) p.heard have));
      own = λ few. no_more (flat_map unasked_receipts p.met) (omega (arith, p.balance, few, fresh.3, ap length fresh.1, ap length finished.1));
    }

pub join : {looks : Looks} (base : Condensed) (m n : ℕ) (a b c : SlotState) → IsTurn looks base m a b → IsTurn looks base n b c → IsTurn looks base (m + n) a c
join {looks} base m n a b c p q = joined p q
