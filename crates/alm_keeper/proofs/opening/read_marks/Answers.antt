use Rattle.std.proofs.Common.{◌≡◌, ℕ, List, [], ◌∷◌, Ok, refl, ap, subst, ◌∙◌}
use Rattle.alm_disk.specs.declared.call.Call.TheVariants.{Read}
use Rattle.alm_checkpoint.specs.declared.half.Half.TheVariants.{First, Second}
use Rattle.alm_checkpoint.specs.Layouts.{part, half_at}
use Rattle.alm_checkpoint.specs.Opening.{head_of}
use Rattle.alm_keeper.specs.Opening.{MarksFrom}
use Rattle.alm_keeper.proofs.Made.{ends_done}
use Rattle.alm_keeper.proofs.Opened.{on_ok}
use Rattle.alm_keeper.proofs.opening.read_marks.Goals as goal

pub returns-clause-marks : goal.returns-clause-marks
returns-clause-marks g c = λ b honest settled.
    let l = c.args.layout in
    let s = c.read.ensures.only.keeps b settled in
    let first : c.read.new.into ≡ head_of l First b = c.in-Ok.ensures.given b (c.read-2.ensures.only.honest honest) settled ∙ ap (λ (n : ℕ). part n 25 b) c.half_at.ensures in
    let second : c.read-2.new.into ≡ head_of l Second b = c.in-Ok-read.ensures.given b honest s ∙ ap (λ (n : ℕ). part n 25 b) c.half_at-2.ensures in
    subst (λ (p : List ℕ). MarksFrom l p (head_of l Second b) c.marks_of.result) first
    (subst (λ (p : List ℕ). MarksFrom l c.read.new.into p c.marks_of.result) second c.marks_of.ensures.marks)

pub returns-clause-made : goal.returns-clause-made
returns-clause-made g c =
    let serves = g.D.Disk.serves in
    let one = subst (λ (n : ℕ). serves c.args.disk.now (Read n 25) (Ok tt) c.read.new.disk) c.half_at.ensures c.in-Ok.ensures.serves in
    let two = subst (λ (n : ℕ). serves c.read.new.disk (Read n 25) (Ok tt) c.read-2.new.disk) c.half_at-2.ensures c.in-Ok-read.ensures.serves in
    on_ok c.marks_of.result _ (c.read.new.disk, one, (c.read-2.new.disk, two, refl))

pub returns-clause-made_back : goal.returns-clause-made_back
returns-clause-made_back g c =
    let l = c.args.layout in
    let serves = g.D.Disk.serves in
    let one = subst (λ (n : ℕ). serves c.args.disk.now (Read n 25) (Ok tt) c.read.new.disk) c.half_at.ensures c.in-Ok.ensures.serves in
    let two = subst (λ (n : ℕ). serves c.read.new.disk (Read n 25) (Ok tt) c.read-2.new.disk) c.half_at-2.ensures c.in-Ok-read.ensures.serves in
    ends_done serves (Read (half_at l First) 25 ∷ Read (half_at l Second) 25 ∷ []) c.args.disk.now c.read-2.new.disk c.marks_of.result c.marks_of.ensures.fault (c.read.new.disk, one, (c.read-2.new.disk, two, refl))
