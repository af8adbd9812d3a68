use Rattle.std.proofs.Common.{◌≡◌, ◌≤◌, ◌<◌, ◌+◌, ℕ, length, take, drop, ◌∙◌, ap, subst, arith}
use Rattle.std.proofs.lemmas.List.{length-drop, length-take-le}
use Rattle.std.proofs.Math.Logic.{∥∥₁_map}
use Rattle.alm_keeper.proofs.Order.{commits, never_turned, copies, sent_at, frames_by}
use Rattle.alm_keeper.proofs.Called.{commit_call, piece_call, checkpoint_call, commit_makes, piece_makes, checkpoint_makes}
use Rattle.alm_disk.specs.declared.call.Call.{Call}
use Rattle.alm_segment.specs.Course.{frame_len}
use Rattle.alm_keeper.proofs.Going.{commit_passes, checkpoint_passes, piece_passes, retire_passes, run_size}
use Rattle.alm_keeper.specs.declared.stage.Stage.TheVariants.{Body}
use Rattle.alm_keeper.specs.declared.stage.Work.TheVariants.{Checkpoint}
use Rattle.alm_keeper.specs.Keeping.{piece_of, run_in}
use Rattle.alm_keeper.proofs.advancing.call_next.Goals as goal

pub returns-in-Commit-clause-passes : goal.returns-in-Commit-clause-passes
returns-in-Commit-clause-passes g c = λ honest keeps.
    let b = c.args.book.now in
    let w = commits b c.requires.in_order c.requires.working c.in-Commit.is in
    ∥∥₁_map keeps (λ k. commit_passes c.call.result (g.D.Disk.state c.args.disk.now) (g.D.Disk.state c.call.new.disk) b c.requires.in_order c.requires.working (take c.frame_len.result c.deref.result.now) c.in-Commit.is
    ((λ i. take (c.frame_len.ensures i) (c.deref.ensures.value i)) ∙ w.text) (c.call.ensures.stage_call honest) k)

pub returns-in-Body-clause-passes : goal.returns-in-Body-clause-passes
returns-in-Body-clause-passes g c = λ honest keeps.
    let b = c.args.book.now in
    let i = c.requires.in_order in
    let works = c.requires.working in
    let on = (copies b i works c.in-Checkpoint.is).0 in
    let sent : b.out < b.run = sent_at b Body Checkpoint i tt c.in-Body.is c.in-Checkpoint.is on in
    let within : b.out + piece_of b ≤ length (run_in b) = omega (arith, run_size b i works on, sent) in
    ∥∥₁_map keeps (λ k. piece_passes c.call-in-Body.result (g.D.Disk.state c.args.disk.now) (g.D.Disk.state c.call-in-Body.new.disk) b i works (c.other_at.result + b.out) c.piece.result.now c.in-Checkpoint.is c.in-Body.is
    (ap (λ (n : ℕ). n + b.out) c.other_at.ensures) c.piece.ensures within (c.call-in-Body.ensures.stage_call honest) k)

pub returns-in-Commit-clause-serves : goal.returns-in-Commit-clause-serves
returns-in-Commit-clause-serves g c =
    let b = c.args.book.now in
    let i = c.requires.in_order in
    let long : length (take c.frame_len.result c.deref.result.now) ≡ frame_len (length b.actions.items) =
    ap length ((λ i. take (c.frame_len.ensures i) (c.deref.ensures.value i))) ∙ length-take-le (frame_len (length b.actions.items)) b.frame.items (omega (arith, (frames_by b i c.requires.working c.in-Commit.is).0, i.frame)) in
    subst (λ (call : Call). g.D.Disk.serves c.args.disk.now call c.call.result c.call.new.disk) (commit_call c.args.disk.now b i b.stage (length (take c.frame_len.result c.deref.result.now)) long c.in-Commit.is (never_turned b i c.in-Commit.is)) c.call.ensures.serves

pub returns-in-Body-clause-serves : goal.returns-in-Body-clause-serves
returns-in-Body-clause-serves g c =
    let b = c.args.book.now in
    let i = c.requires.in_order in
    let works = c.requires.working in
    let on = (copies b i works c.in-Checkpoint.is).0 in
    let sent : b.out < b.run = sent_at b Body Checkpoint i tt c.in-Body.is c.in-Checkpoint.is on in
    let long : length c.piece.result.now ≡ piece_of b =
    ap length c.piece.ensures ∙ length-take-le (piece_of b) (drop b.out (run_in b)) (omega (arith, run_size b i works on, sent, length-drop b.out (run_in b))) in
    subst (λ (call : Call). g.D.Disk.serves c.args.disk.now call c.call-in-Body.result c.call-in-Body.new.disk) (piece_call c.args.disk.now b (c.other_at.result + b.out) (length c.piece.result.now) c.in-Body.is c.in-Checkpoint.is (ap (λ (n : ℕ). n + b.out) c.other_at.ensures) long) c.call-in-Body.ensures.serves

pub returns-in-Commit-clause-makes : goal.returns-in-Commit-clause-makes
returns-in-Commit-clause-makes g c = λ honest.
    let b = c.args.book.now in
    let i = c.requires.in_order in
    let w = commits b i c.requires.working c.in-Commit.is in
    commit_makes c.args.disk.now b c.call.result (g.D.Disk.state c.args.disk.now) (g.D.Disk.state c.call.new.disk) i b.stage (take c.frame_len.result c.deref.result.now) c.in-Commit.is (never_turned b i c.in-Commit.is)
    ((λ i. take (c.frame_len.ensures i) (c.deref.ensures.value i)) ∙ w.text) (c.call.ensures.stage_call honest)

pub returns-in-Body-clause-makes : goal.returns-in-Body-clause-makes
returns-in-Body-clause-makes g c = λ honest.
    let b = c.args.book.now in
    let i = c.requires.in_order in
    let works = c.requires.working in
    let on = (copies b i works c.in-Checkpoint.is).0 in
    let sent : b.out < b.run = sent_at b Body Checkpoint i tt c.in-Body.is c.in-Checkpoint.is on in
    let long : length c.piece.result.now ≡ piece_of b =
    ap length c.piece.ensures ∙ length-take-le (piece_of b) (drop b.out (run_in b)) (omega (arith, run_size b i works on, sent, length-drop b.out (run_in b))) in
    piece_makes c.args.disk.now b c.call-in-Body.result (g.D.Disk.state c.args.disk.now) (g.D.Disk.state c.call-in-Body.new.disk) (c.other_at.result + b.out) c.piece.result.now c.in-Body.is c.in-Checkpoint.is on
    (ap (λ (n : ℕ). n + b.out) c.other_at.ensures) c.piece.ensures long (c.call-in-Body.ensures.stage_call honest)

pub returns-in-Retire-clause-passes : goal.returns-in-Retire-clause-passes
returns-in-Retire-clause-passes g c = λ honest keeps.
    ∥∥₁_map keeps (λ k. retire_passes c.call-in-Retire.result (g.D.Disk.state c.args.disk.now) (g.D.Disk.state c.call-in-Retire.new.disk) c.args.book.now c.requires.in_order c.requires.working c.own_at.result c.in-Checkpoint.is c.in-Retire.is c.own_at.ensures
    (c.call-in-Retire.ensures.stage_call honest) k)

pub returns-in_default : goal.returns-in_default
returns-in_default g c = record {
  same = (c.call-in_default.ensures.honest, c.call-in_default.ensures.size);
  count = c.call-in_default.ensures.count;
  serves =
      let b = c.args.book.now in
      subst (λ (call : Call). g.D.Disk.serves c.args.disk.now call c.call-in_default.result c.call-in_default.new.disk) (checkpoint_call c.args.disk.now b b.stage c.other_at-in_default.result 0 c.in_default.not-Body c.in_default.not-Retire c.other_at-in_default.ensures c.in-Checkpoint.is) c.call-in_default.ensures.serves;
  makes = λ honest.
      let old = g.D.Disk.state c.args.disk.now in
      let new = g.D.Disk.state c.call-in_default.new.disk in
      let b = c.args.book.now in
      checkpoint_makes c.args.disk.now b c.call-in_default.result old new b.stage c.other_at-in_default.result _ c.in_default.not-Body c.in_default.not-Retire c.other_at-in_default.ensures c.in-Checkpoint.is (c.call-in_default.ensures.stage_call honest);
  is_call = c.call-in_default.ensures.is_call;
  passes = λ honest keeps.
      let old = g.D.Disk.state c.args.disk.now in
      let new = g.D.Disk.state c.call-in_default.new.disk in
      let call = c.call-in_default.ensures.stage_call honest in
      ∥∥₁_map keeps (λ k. checkpoint_passes c.call-in_default.result old new c.args.book.now c.requires.in_order c.requires.working c.other_at-in_default.result c.in-Checkpoint.is c.in_default.not-Body c.in_default.not-Retire c.other_at-in_default.ensures call k);
}
