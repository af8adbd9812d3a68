-- No text of a header is a prefix of another's, nor a text of a half's head of another's of the same layout. A header
-- is read as what it encodes.
use Rattle.std.proofs.Common.{◌≡◌, ℕ, ◌+◌, ◌≤◌, List, ◌∷◌, ◌++◌, Ok, sym, ap, ◌∙◌, arith}
use Rattle.alm_codec.proofs.Numbers.{ok_is}
use Rattle.alm_checkpoint.specs.declared.layout.Layout.{Layout}
use Rattle.alm_checkpoint.specs.declared.half.Half.{Half}
use Rattle.alm_checkpoint.specs.declared.half_head.HalfHead.{HalfHead}
use Rattle.alm_checkpoint.specs.Layouts.{device_len, header_len}
use Rattle.alm_checkpoint.specs.Headers.{header, header_text, half_head, half_head_text, IsHeadOf}
use Rattle.alm_checkpoint.specs.Cut.{IsLayout}
use Rattle.alm_checkpoint.specs.Opening.{layout_from, ◌>>=◌, read_to}
use Rattle.alm_checkpoint.proofs.HeaderLaws.{header_keeps, header_lawful, header_reads, head_again}
use Rattle.alm_checkpoint.proofs.Shown.{image_small, suited}

pub no_header_begins : (a b : Layout) (x y : List ℕ) → IsLayout a → IsLayout b → header_text a ++ x ≡ header_text b ++ y → a ≡ b
no_header_begins a b x y i j e =
    let size = device_len a + device_len b in
    let first = (header_lawful size).again a x (header_keeps size a (suited size a i (omega arith))) in
    let second = (header_lawful size).again b y (header_keeps size b (suited size b j (omega arith))) in
    ap (λ (p : Layout × List ℕ). p.0) (ok_is (a, x) (b, y) (sym first ∙ ap (header size).read e ∙ second))

pub no_head_begins : (l : Layout) (h : Half) (a b : HalfHead) (x y : List ℕ) → IsLayout l → IsHeadOf l a → IsHeadOf l b → half_head_text l h a ++ x ≡ half_head_text l h b ++ y → a ≡ b
no_head_begins l h a b x y limits i j e =
    let small = image_small l limits in
    ap (λ (p : HalfHead × List ℕ). p.0) (ok_is (a, x) (b, y) (sym (head_again l h a x i small) ∙ ap (half_head l h).read e ∙ head_again l h b y j small))

pub header_again : (size : ℕ) (l : Layout) → IsLayout l → device_len l ≤ size → layout_from size (165 ∷ header_text l) ≡ Ok l
unfolding layout_from
header_again size l limits long = ap (λ r. read_to 2 header_len r >>= λ x. Ok x.0) (header_reads size l (suited size l limits long))
