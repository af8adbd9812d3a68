use Rattle.std.proofs.Common.{ℕ, [], ◌∷◌, ◌++◌, ◌∙◌, arith, rules, subst}
use Rattle.alm_disk.specs.declared.call.Call.TheVariants.{Read}
use Rattle.alm_checkpoint.specs.declared.half.Half.TheVariants.{First, Second}
use Rattle.alm_checkpoint.specs.Layouts.{part, half_at, image_at, image_size, segment_at}
use Rattle.alm_store.specs.Calls.{AreDone, EndIn}
use Rattle.alm_keeper.proofs.Made.{done_by, done_then, ends_longer, ends_behind, ends_in_header, ends_restored}
use Rattle.alm_keeper.proofs.Opened.{layout_fault, marks_fault, opens_by, fits_by}
use Rattle.alm_keeper.proofs.opening.read_book.Goals as goal

pub returns-in-Err-clause-opens : goal.returns-in-Err-clause-opens
returns-in-Err-clause-opens g c = λ b honest settled bytes long. layout_fault b c.in-Err.fault (c.in-Err.ensures.layout b honest settled long)

pub returns-in-Err-read_marks-clause-opens : goal.returns-in-Err-read_marks-clause-opens
returns-in-Err-read_marks-clause-opens g c = λ b honest settled bytes long.
    let h = c.read_marks.ensures.only.honest honest in
    marks_fault c.in-Ok.layout b c.in-Err-read_marks.fault (c.in-Ok.ensures.layout b h settled long) (c.in-Err-read_marks.ensures.marks b honest (c.read_layout.ensures.only.keeps b settled))

pub returns-clause-only : goal.returns-clause-only
returns-clause-only g c = record {
  honest = search rules;
  size = search rules;
  keeps = λ b settled. c.read_room-2.ensures.only.keeps b (c.read_room.ensures.only.keeps b (c.read_marks.ensures.only.keeps b (c.read_layout.ensures.only.keeps b settled)));
}

pub returns-clause-opens : goal.returns-clause-opens
returns-clause-opens g c = λ b honest settled bytes long.
    let l = c.in-Ok.layout in
    let m = c.in-Ok-read_marks.marks in
    -- honest before the last read, and before each that came earlier
    let h'' = c.read_room-2.ensures.only.honest honest in
    let h' = c.read_room.ensures.only.honest h'' in
    let h = c.read_marks.ensures.only.honest h' in
    -- settled after each
    let s = c.read_layout.ensures.only.keeps b settled in
    let s' = c.read_marks.ensures.only.keeps b s in
    let s'' = c.read_room.ensures.only.keeps b s' in
    let image = c.deref.result.now in
    let segment = c.deref-2.result.now in
    opens_by b l m bytes (c.in-Ok.ensures.layout b h settled long) (c.in-Ok-read_marks.ensures.marks b h' s) image segment c.book_of.result
    (c.deref.ensures.value ∙ c.in-Ok-read_room.ensures.given b h'' s' ∙ (λ i. part (c.image_at.ensures i) (c.image_len.ensures i) b))
    (c.deref-2.ensures.value ∙ c.in-Ok-read_room-2.ensures.given b honest s'' ∙ (λ i. part (c.segment_at.ensures i) (c.segment.ensures i) b))
    c.book_of.ensures.restores

pub returns-clause-fits : goal.returns-clause-fits
returns-clause-fits g c =
    fits_by c.in-Ok.layout c.in-Ok-read_marks.marks c.deref.result.now c.deref-2.result.now (g.D.Disk.size c.read_room-2.new.disk) c.book_of.result c.book_of.ensures.restores
    (omega (arith, c.in-Ok.ensures.fits.0, c.read_marks.ensures.only.size, c.read_room.ensures.only.size, c.read_room-2.ensures.only.size))
    (omega (arith, c.in-Ok.ensures.memory, c.read_marks.ensures.only.size, c.read_room.ensures.only.size, c.read_room-2.ensures.only.size))

pub returns-clause-made : goal.returns-clause-made
returns-clause-made g c =
    let serves = g.D.Disk.serves in
    let l = c.in-Ok.layout in
    let m = c.in-Ok-read_marks.marks in
    let start = c.args.disk.now in
    let d1 = c.read_layout.new.disk in
    let d2 = c.read_marks.new.disk in
    let d3 = c.read_room.new.disk in
    let d4 = c.read_room-2.new.disk in
    let header = Read 0 23 ∷ [] in
    let heads = Read (half_at l First) 25 ∷ Read (half_at l Second) 25 ∷ [] in
    let at_image = Read (image_at l m.half) (image_size l) ∷ [] in
    let at_segment = Read (segment_at l m.half) l.segment ∷ [] in
    let image : AreDone serves at_image d2 d3 = subst (λ (n : ℕ). AreDone serves (Read n (image_size l) ∷ []) d2 d3) c.image_at.ensures (subst (λ (n : ℕ). AreDone serves (Read c.image_at.result n ∷ []) d2 d3) c.image_len.ensures c.in-Ok-read_room.ensures.made) in
    let segment : AreDone serves at_segment d3 d4 = subst (λ (n : ℕ). AreDone serves (Read n l.segment ∷ []) d3 d4) c.segment_at.ensures (subst (λ (n : ℕ). AreDone serves (Read c.segment_at.result n ∷ []) d3 d4) c.segment.ensures c.in-Ok-read_room-2.ensures.made) in
    let behind = done_then serves at_image at_segment d2 d3 d4 image segment in
    let rest = done_then serves heads (at_image ++ at_segment) d1 d2 d4 c.in-Ok-read_marks.ensures.made behind in
    let all = done_then serves header (heads ++ (at_image ++ at_segment)) start d1 d4 c.in-Ok.ensures.made rest in
    done_by serves l m c.deref.result.now c.deref-2.result.now start d4 c.book_of.result c.book_of.ensures.restores all

pub returns-clause-made_back : goal.returns-clause-made_back
returns-clause-made_back g c =
    let serves = g.D.Disk.serves in
    let l = c.in-Ok.layout in
    let m = c.in-Ok-read_marks.marks in
    let start = c.args.disk.now in
    let d1 = c.read_layout.new.disk in
    let d2 = c.read_marks.new.disk in
    let d3 = c.read_room.new.disk in
    let d4 = c.read_room-2.new.disk in
    let header = Read 0 23 ∷ [] in
    let heads = Read (half_at l First) 25 ∷ Read (half_at l Second) 25 ∷ [] in
    let at_image = Read (image_at l m.half) (image_size l) ∷ [] in
    let at_segment = Read (segment_at l m.half) l.segment ∷ [] in
    let image : AreDone serves at_image d2 d3 = subst (λ (n : ℕ). AreDone serves (Read n (image_size l) ∷ []) d2 d3) c.image_at.ensures (subst (λ (n : ℕ). AreDone serves (Read c.image_at.result n ∷ []) d2 d3) c.image_len.ensures c.in-Ok-read_room.ensures.made) in
    let segment : AreDone serves at_segment d3 d4 = subst (λ (n : ℕ). AreDone serves (Read n l.segment ∷ []) d3 d4) c.segment_at.ensures (subst (λ (n : ℕ). AreDone serves (Read c.segment_at.result n ∷ []) d3 d4) c.segment.ensures c.in-Ok-read_room-2.ensures.made) in
    let behind = done_then serves at_image at_segment d2 d3 d4 image segment in
    let rest = done_then serves heads (at_image ++ at_segment) d1 d2 d4 c.in-Ok-read_marks.ensures.made behind in
    let all = done_then serves header (heads ++ (at_image ++ at_segment)) start d1 d4 c.in-Ok.ensures.made rest in
    ends_restored serves l m c.deref.result.now c.deref-2.result.now start d4 c.book_of.result c.book_of.ensures.restores all

pub returns-in-Err-clause-made_back : goal.returns-in-Err-clause-made_back
returns-in-Err-clause-made_back g c = ends_in_header g.D.Disk.serves c.in-Err.fault c.args.disk.now c.read_layout.new.disk c.in-Err.ensures.made_back

pub returns-in-Err-read_marks-clause-made_back : goal.returns-in-Err-read_marks-clause-made_back
returns-in-Err-read_marks-clause-made_back g c =
    let serves = g.D.Disk.serves in
    let l = c.in-Ok.layout in
    let f = c.in-Err-read_marks.fault in
    let start = c.args.disk.now in
    let d1 = c.read_layout.new.disk in
    let d2 = c.read_marks.new.disk in
    let header = Read 0 23 ∷ [] in
    let heads = Read (half_at l First) 25 ∷ Read (half_at l Second) 25 ∷ [] in
    let behind = Read (image_at l First) (image_size l) ∷ Read (segment_at l First) l.segment ∷ [] in
    let ends = ends_behind serves f header heads start d1 d2 c.in-Ok.ensures.made c.in-Err-read_marks.ensures.made_back in
    (l, First, ends_longer serves f (header ++ heads) behind start d2 ends)

pub returns-in-Err-read_room-clause-made_back : goal.returns-in-Err-read_room-clause-made_back
returns-in-Err-read_room-clause-made_back g c =
    let serves = g.D.Disk.serves in
    let l = c.in-Ok.layout in
    let m = c.in-Ok-read_marks.marks in
    let f = c.in-Err-read_room.fault in
    let start = c.args.disk.now in
    let d1 = c.read_layout.new.disk in
    let d2 = c.read_marks.new.disk in
    let d3 = c.read_room.new.disk in
    let header = Read 0 23 ∷ [] in
    let heads = Read (half_at l First) 25 ∷ Read (half_at l Second) 25 ∷ [] in
    let at_image = Read (image_at l m.half) (image_size l) ∷ [] in
    let at_segment = Read (segment_at l m.half) l.segment ∷ [] in
    let image : EndIn f serves at_image d2 d3 = subst (λ (n : ℕ). EndIn f serves (Read n (image_size l) ∷ []) d2 d3) c.image_at.ensures (subst (λ (n : ℕ). EndIn f serves (Read c.image_at.result n ∷ []) d2 d3) c.image_len.ensures c.in-Err-read_room.ensures.made_back) in
    let done = done_then serves header heads start d1 d2 c.in-Ok.ensures.made c.in-Ok-read_marks.ensures.made in
    (l, m.half, ends_longer serves f (header ++ heads ++ at_image) at_segment start d3 (ends_behind serves f (header ++ heads) at_image start d2 d3 done image))

pub returns-in-Err-read_room-2-clause-made_back : goal.returns-in-Err-read_room-2-clause-made_back
returns-in-Err-read_room-2-clause-made_back g c =
    let f = c.in-Err-read_room-2.fault in
    let serves = g.D.Disk.serves in
    let l = c.in-Ok.layout in
    let m = c.in-Ok-read_marks.marks in
    let start = c.args.disk.now in
    let d1 = c.read_layout.new.disk in
    let d2 = c.read_marks.new.disk in
    let d3 = c.read_room.new.disk in
    let d4 = c.read_room-2.new.disk in
    let header = Read 0 23 ∷ [] in
    let heads = Read (half_at l First) 25 ∷ Read (half_at l Second) 25 ∷ [] in
    let at_image = Read (image_at l m.half) (image_size l) ∷ [] in
    let at_segment = Read (segment_at l m.half) l.segment ∷ [] in
    let image : AreDone serves at_image d2 d3 = subst (λ (n : ℕ). AreDone serves (Read n (image_size l) ∷ []) d2 d3) c.image_at.ensures (subst (λ (n : ℕ). AreDone serves (Read c.image_at.result n ∷ []) d2 d3) c.image_len.ensures c.in-Ok-read_room.ensures.made) in
    let segment : EndIn f serves at_segment d3 d4 = subst (λ (n : ℕ). EndIn f serves (Read n l.segment ∷ []) d3 d4) c.segment_at.ensures (subst (λ (n : ℕ). EndIn f serves (Read c.segment_at.result n ∷ []) d3 d4) c.segment.ensures c.in-Err-read_room-2.ensures.made_back) in
    let done = done_then serves header heads start d1 d2 c.in-Ok.ensures.made c.in-Ok-read_marks.ensures.made in
    let all = done_then serves (header ++ heads) at_image start d2 d3 done image in
    (l, m.half, ends_behind serves f (header ++ heads ++ at_image) at_segment start d3 d4 all segment)
