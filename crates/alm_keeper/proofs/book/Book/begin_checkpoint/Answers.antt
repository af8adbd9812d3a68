use Rattle.std.proofs.Common.{true, ◌≡◌, ◌+◌, ◌^◌, ◌<◌, ◌++◌, ◌∷◌, [], ℕ, take, arith, refl, sym, ap, subst, ◌∙◌}
use Rattle.alm_codec.specs.Versions.{closed_gate}
use Rattle.alm_codec.specs.Image.{image_text}
use Rattle.alm_checkpoint.specs.Headers.{half_head_text}
use Rattle.alm_checkpoint.specs.Cut.{head_before}
use Rattle.alm_checkpoint.specs.Layouts.{image_size}
use Rattle.alm_keeper.specs.Stages.{phase_of}
use Rattle.alm_store.specs.Advancing.{IsResting}
use Rattle.alm_keeper.specs.Keeping.{Does, IsCopying}
use Rattle.alm_keeper.proofs.Order.{rests, idle_stage, opens_does, opens_copy}
use Rattle.alm_keeper.specs.declared.book.Book.{Book}
use Rattle.alm_keeper.specs.declared.stage.Stage.{Stage}
use Rattle.alm_keeper.specs.declared.stage.Work.TheVariants.{Checkpoint}
use Rattle.alm_keeper.proofs.book.Book.begin_checkpoint.Goals as goal

pub returns-clause-copies : goal.returns-clause-copies
returns-clause-copies c =
    let b = c.args.self.now in
    let items = c.write_half.new.buffer.items in
    let run : 25 + c.image_len.result ≡ 25 + image_size b.layout = ap (λ (n : ℕ). 25 + n) c.image_len.ensures in
    record {
      idle = idle_stage b.stage b.work (sym c.phase_of.ensures ∙ c.in-Idle.is);
      stage = c.first_stage-self.ensures;
      work = refl;
      account = refl;
      actions = refl;
      copying = refl;
      run = run;
      text = ap (λ (n : ℕ). take n items) run ∙ c.write_half.ensures.text ∙ (λ i. half_head_text b.layout (c.other-half.ensures i) (head_before (c.newer-version.ensures i) (b.epoch + 1) b.stored) ++ image_text b.stored ++ closed_gate (c.newer-version.ensures i) ∷ []);
      out = refl;
      written = refl;
    }

pub returns-clause-in_order : goal.returns-clause-in_order
returns-clause-in_order c =
    let b = c.args.self.now in
    let i = c.requires.in_order in
    let idle = idle_stage b.stage b.work (sym c.phase_of.ensures ∙ c.in-Idle.is) in
    let run : 25 + c.image_len.result ≡ 25 + image_size b.layout = ap (λ (n : ℕ). 25 + n) c.image_len.ensures in
    let resting : IsResting (phase_of b.stage b.work) = subst (λ (s : Stage). IsResting (phase_of s b.work)) (sym idle) tt in
    let first = c.first_stage-self.ensures in
    let more : b.epoch + 1 < 2 ^ 64 = omega (arith, c.if-self.false) in
    let new : Book = record b { stage = c.first_stage-self.result; work = Checkpoint; copying = true; buffer = c.write_half.new.buffer; run = 25 + c.image_len.result; out = 0 } in
    record {
      layout = i.layout;
      small = i.small;
      rules = i.rules;
      sizes = i.sizes;
      count = i.count;
      first = i.first;
      gate = i.gate;
      room = i.room;
      frame = i.frame;
      frame_room = i.frame_room;
      buffer = c.write_half.ensures.room ∙ i.buffer;
      does = subst (λ (s : Stage). Does s Checkpoint new) (sym first) (opens_does new b.other_open refl (rests b resting i));
      copy = subst (λ (s : Stage). IsCopying true s new) (sym first) (opens_copy new b.other_open refl more run i.first refl (omega (arith, run, c.write_half.ensures.long)));
    }
