-- A device on which all is written encodes the new plant.
use Rattle.std.proofs.Common.{◌≡◌, inl, inr, ⊎_elim, ℕ, suc, ◌+◌, ◌-◌, ◌^◌, ◌≤◌, true, false, leb, List, [], ◌∷◌, ◌++◌, length, take, drop, refl, sym, ◌∙◌, ap, subst, arith, append_assoc, length-append, length-drop, take-append-drop}
use Rattle.std.proofs.lemmas.Bool.{leb-true, le-leb, and_parts, and_from}
use Rattle.std.proofs.lemmas.List.{append-nil, length-take-le, take_at, drop_at, length-replicate}
use Rattle.std.proofs.lemmas.List.Elements.{All-nil}
use Rattle.alm_codec.specs.Versions.{closed_gate, IsBorne}
use Rattle.alm_codec.specs.declared.version.Version.{Version}
use Rattle.alm_codec.specs.declared.version.Version.TheVariants.{V01, V02, V03}
use Rattle.alm_types.specs.Tables.{Listing}
use Rattle.alm_model.specs.Plant.{Condensed}
use Rattle.alm_model.specs.New.{new_plant, at_rest}
use Rattle.alm_model.specs.Rules.{KeepsRules}
use Rattle.alm_codec.specs.Image.{IsOf, image_text, image_len}
use Rattle.alm_codec.proofs.Spelled.{image_length}
use Rattle.alm_disk.specs.Device.{DeviceState}
use Rattle.alm_checkpoint.specs.declared.layout.Layout.{Layout}
use Rattle.alm_checkpoint.specs.declared.half.Half.TheVariants.{First, Second}
use Rattle.alm_checkpoint.specs.declared.half_head.HalfHead.{HalfHead}
use Rattle.alm_checkpoint.specs.Layouts.{half_at, half_len, image_size, device_len, is_rows, is_areas, is_segment}
use Rattle.alm_checkpoint.specs.Headers.{header_text, half_head_text, of_rows, allows, segment_fits}
use Rattle.alm_checkpoint.specs.Cut.{Cut, IsLayout, Stores, head_before, device_of}
use Rattle.alm_checkpoint.proofs.HeaderLaws.{head_long}
use Rattle.alm_checkpoint.proofs.Turned.{shut_beside}
use Rattle.alm_keeper.proofs.Gates.{closed_shut, half_shut}
use Rattle.alm_checkpoint.proofs.Shown.{shown, shown_opens}
use Rattle.alm_segment.proofs.Segments.{folds}
use Rattle.alm_keeper.specs.Formatting.{IsLongest, IsLongestFor, IsNewDevice, IsWritten, Leaves, LeavesOf, overwritten, with_empty_half, with_open_gate, first_half, IsOfVersion}

-- ---- the bytes

put_mid : (at : ℕ) (bytes front old back : List ℕ) → at ≡ length front → length bytes ≡ length old → overwritten at bytes (front ++ old ++ back) ≡ front ++ bytes ++ back
put_mid at bytes front old back place long = (λ i. take (place i) (front ++ old ++ back) ++ bytes ++ drop (place i + long i) (front ++ old ++ back)) ∙ (λ i. take_front i ++ bytes ++ drop_back i)
  where
    take_front : take (length front) (front ++ old ++ back) ≡ front
    take_front = ap (take (length front)) (append_assoc front old back) ∙ take_at front (old ++ back) (length front) refl

    drop_back : drop (length front + length old) (front ++ old ++ back) ≡ back
    drop_back = drop_at (front ++ old) back (length front + length old) (length-append front old)

-- the same, with the list regrouped before and after
pub put_in : (at : ℕ) (bytes front old back all after : List ℕ) → all ≡ front ++ old ++ back → front ++ bytes ++ back ≡ after → at ≡ length front → length bytes ≡ length old → overwritten at bytes all ≡ after
put_in at bytes front old back all after is to place long = ap (overwritten at bytes) is ∙ put_mid at bytes front old back place long ∙ to

record Split (n : ℕ) (x : List ℕ) : Type 0 where
  first : List ℕ
  second : List ℕ
  long : length first ≡ n
  is : x ≡ first ++ second
  left : length second + n ≡ length x

split : (n : ℕ) (x : List ℕ) → n ≤ length x → Split n x
split n x le = record { first = take n x; second = drop n x; long = length-take-le n x le; is = sym (take-append-drop n x); left = omega (arith, length-drop n x) }

-- a device cut at the places that the calls write
record Pieces (l : Layout) (x : List ℕ) : Type 0 where
  a : List ℕ
  h : List ℕ
  m : List ℕ
  s : List ℕ
  g : List ℕ
  o : List ℕ
  r : List ℕ
  by_a : length a ≡ 1
  by_h : length h ≡ 22
  by_m : length m ≡ 26 + image_size l
  by_s : length s + 1 ≡ l.segment
  by_g : length g ≡ 1
  by_o : length o + 1 ≡ half_len l
  is : x ≡ a ++ (h ++ (m ++ (s ++ (g ++ (o ++ r)))))

module _ (l : Layout) (x : List ℕ) (some : 1 ≤ l.segment) (fits : device_len l ≤ length x) where
  cut_o : (a h m s g y : List ℕ) → length a ≡ 1 → length h ≡ 22 → length m ≡ 26 + image_size l → length s + 1 ≡ l.segment → length g ≡ 1 → x ≡ a ++ (h ++ (m ++ (s ++ (g ++ y)))) → Split (half_len l - 1) y → Pieces l x
  cut_o a h m s g y by_a by_h by_m by_s by_g is p = record {
    a = a;
    h = h;
    m = m;
    s = s;
    g = g;
    o = p.first;
    r = p.second;
    by_a = by_a;
    by_h = by_h;
    by_m = by_m;
    by_s = by_s;
    by_g = by_g;
    by_o = omega (arith, p.long);
    is = is ∙ ap (λ (z : List ℕ). a ++ (h ++ (m ++ (s ++ (g ++ z))))) p.is;
  }

  cut_g : (a h m s y : List ℕ) → length a ≡ 1 → length h ≡ 22 → length m ≡ 26 + image_size l → length s + 1 ≡ l.segment → half_len l ≤ length y → x ≡ a ++ (h ++ (m ++ (s ++ y))) → Split 1 y → Pieces l x
  cut_g a h m s y by_a by_h by_m by_s enough is p =
      cut_o a h m s p.first p.second by_a by_h by_m by_s p.long (is ∙ ap (λ (z : List ℕ). a ++ (h ++ (m ++ (s ++ z)))) p.is) (split (half_len l - 1) p.second (omega (arith, enough, p.left)))

  cut_s : (a h m y : List ℕ) → length a ≡ 1 → length h ≡ 22 → length m ≡ 26 + image_size l → l.segment + half_len l ≤ length y + 1 → x ≡ a ++ (h ++ (m ++ y)) → Split (l.segment - 1) y → Pieces l x
  cut_s a h m y by_a by_h by_m enough is p =
      cut_g a h m p.first p.second by_a by_h by_m (omega (arith, p.long, some)) (omega (arith, enough, p.left, some)) (is ∙ ap (λ (z : List ℕ). a ++ (h ++ (m ++ z))) p.is) (split 1 p.second (omega (arith, enough, p.left, some)))

  cut_m : (a h y : List ℕ) → length a ≡ 1 → length h ≡ 22 → half_len l + half_len l ≤ length y → x ≡ a ++ (h ++ y) → Split (26 + image_size l) y → Pieces l x
  cut_m a h y by_a by_h enough is p =
      cut_s a h p.first p.second by_a by_h p.long (omega (arith, enough, p.left)) (is ∙ ap (λ (z : List ℕ). a ++ (h ++ z)) p.is) (split (l.segment - 1) p.second (omega (arith, enough, p.left)))

  cut_h : (a y : List ℕ) → length a ≡ 1 → 22 + half_len l + half_len l ≤ length y → x ≡ a ++ y → Split 22 y → Pieces l x
  cut_h a y by_a enough is p = cut_m a p.first p.second by_a p.long (omega (arith, enough, p.left)) (is ∙ ap (λ (z : List ℕ). a ++ z) p.is) (split (26 + image_size l) p.second (omega (arith, enough, p.left, some)))

  cut_a : Split 1 x → Pieces l x
  cut_a p = cut_h p.first p.second p.long (omega (arith, fits, p.left)) p.is (split 22 p.second (omega (arith, fits, p.left)))

  pieces : Pieces l x
  pieces = cut_a (split 1 x (omega (arith, fits)))

g1 : (a h m s g r : List ℕ) → a ++ (h ++ (m ++ (s ++ (g ++ r)))) ≡ a ++ h ++ (m ++ (s ++ (g ++ r)))
g1 a h m s g r = simp append_assoc

g2 : (a h m s g r : List ℕ) → a ++ h ++ (m ++ (s ++ (g ++ r))) ≡ (a ++ h) ++ m ++ (s ++ (g ++ r))
g2 a h m s g r = simp append_assoc

g3 : (a h m s g r : List ℕ) → (a ++ h) ++ m ++ (s ++ (g ++ r)) ≡ (a ++ h ++ m ++ s) ++ g ++ r
g3 a h m s g r = simp append_assoc

g4 : (z : ℕ) (a h m s g r : List ℕ) → (a ++ h ++ (z ∷ m) ++ s) ++ g ++ r ≡ (a ++ h) ++ (z ∷ []) ++ (m ++ (s ++ (g ++ r)))
g4 z a h m s g r = simp append_assoc

g5 : (a h k m s g r : List ℕ) → (a ++ h) ++ k ++ (m ++ (s ++ (g ++ r))) ≡ [] ++ a ++ (h ++ k ++ (m ++ (s ++ (g ++ r))))
g5 a h k m s g r = simp append_assoc

module _ (l : Layout) (header body a h m s g r : List ℕ) (by_a : length a ≡ 1) (by_h : length h ≡ length header) (header_long : length header ≡ 22) (by_m : length m ≡ suc (length body)) (body_long : length body ≡ 25 + image_size l) (by_s : length s + 1 ≡ l.segment) (by_g : length g ≡ 1) where
  abbrev z : ℕ
  z = closed_gate l.version

  one : overwritten 1 header (a ++ (h ++ (m ++ (s ++ (g ++ r))))) ≡ (a ++ header) ++ m ++ (s ++ (g ++ r))
  one = put_in 1 header a h (m ++ (s ++ (g ++ r))) _ _ (g1 a h m s g r) (g2 a header m s g r) (sym by_a) (sym by_h)

  front_long : 23 ≡ length (a ++ header)
  front_long = omega (arith, length-append a header)

  two : overwritten 23 (z ∷ body) ((a ++ header) ++ m ++ (s ++ (g ++ r))) ≡ (a ++ header ++ (z ∷ body) ++ s) ++ g ++ r
  two = put_in 23 (z ∷ body) (a ++ header) m (s ++ (g ++ r)) _ _ refl (g3 a header (z ∷ body) s g r) front_long (sym by_m)

  second_long : half_at l Second ≡ length (a ++ header ++ (z ∷ body) ++ s)
  second_long = omega (arith, length-append (a ++ header ++ (z ∷ body)) s, length-append (a ++ header) (z ∷ body), length-append a header)

  three : overwritten (half_at l Second) (z ∷ []) ((a ++ header ++ (z ∷ body) ++ s) ++ g ++ r) ≡ (a ++ header) ++ (z ∷ []) ++ (body ++ (s ++ ((z ∷ []) ++ r)))
  three = put_in (half_at l Second) (z ∷ []) (a ++ header ++ (z ∷ body) ++ s) g r _ _ refl (g4 z a header body s (z ∷ []) r) second_long (sym by_g)

  four : overwritten 23 (165 ∷ []) ((a ++ header) ++ (z ∷ []) ++ (body ++ (s ++ ((z ∷ []) ++ r)))) ≡ [] ++ a ++ (header ++ (165 ∷ []) ++ (body ++ (s ++ ((z ∷ []) ++ r))))
  four = put_in 23 (165 ∷ []) (a ++ header) (z ∷ []) (body ++ (s ++ ((z ∷ []) ++ r))) _ _ refl (g5 a header (165 ∷ []) body s (z ∷ []) r) front_long refl

  all_put : with_open_gate (with_empty_half l header (z ∷ body) (a ++ (h ++ (m ++ (s ++ (g ++ r)))))) ≡ (165 ∷ []) ++ (header ++ (165 ∷ []) ++ (body ++ (s ++ ((z ∷ []) ++ r))))
  all_put =
      ap (λ (x : List ℕ). with_open_gate (overwritten 23 (165 ∷ []) (overwritten (half_at l Second) (z ∷ []) (overwritten 23 (z ∷ body) x)))) one
      ∙ ap (λ (x : List ℕ). with_open_gate (overwritten 23 (165 ∷ []) (overwritten (half_at l Second) (z ∷ []) x))) two ∙ ap (λ (x : List ℕ). with_open_gate (overwritten 23 (165 ∷ []) x)) three ∙ ap with_open_gate four
      ∙ put_mid 0 (165 ∷ []) [] a (header ++ (165 ∷ []) ++ (body ++ (s ++ ((z ∷ []) ++ r)))) refl (sym by_a)

-- ---- what is cut so

regroup : (z : ℕ) (header head image s o r : List ℕ) → (165 ∷ []) ++ (header ++ (165 ∷ []) ++ ((head ++ image ++ z ∷ []) ++ (s ++ (o ++ r)))) ≡ ((165 ∷ header) ++ (165 ∷ head ++ image)) ++ (z ∷ s) ++ (o ++ r)
regroup z header head image s o r = simp append_assoc

nils : (p q t b : List ℕ) → (p ++ q) ++ t ++ b ≡ ((p ++ []) ++ (q ++ [])) ++ t ++ b
nils p q t b = λ i. (sym (append-nil p) i ++ sym (append-nil q) i) ++ t ++ b

-- a half of the header's version is under it
own_version : (v : Version) → allows v v ≡ true
own_version V01 = refl
own_version V02 = refl
own_version V03 = refl

-- the new device
fresh : Layout → Condensed → List ℕ → List ℕ → Cut
fresh l q other rest = record { layout = l; half = First; version = l.version; epoch = 1; base = q; frames = []; other = other; rest = rest }

-- the new plant of a table has its alarms and areas
new_rows : (t : Listing) → length (new_plant t).panel.rows ≡ length t.alarms
new_rows t = length-replicate (length t.alarms) at_rest

new_areas : (t : Listing) → length (new_plant t).floods ≡ t.areas
new_areas t = length-replicate t.areas false

pub new_longest : (size : ℕ) (t : Listing) (l : Layout) → IsLongest size (length t.alarms) t.areas l → IsLongestFor size (new_plant t) l
new_longest size t l k = subst (λ (n : ℕ). IsLongest size n (length (new_plant t).floods) l) (sym (new_rows t)) (subst (λ (n : ℕ). IsLongest size (length t.alarms) n l) (sym (new_areas t)) k)

pub new_fits : (size : ℕ) (t : Listing) (n : ℕ) → segment_fits size (length t.alarms) t.areas n ≡ false → segment_fits size (length (new_plant t).panel.rows) (length (new_plant t).floods) n ≡ false
new_fits size t n none = (λ i. segment_fits size (new_rows t i) (new_areas t i) n) ∙ none

module _ (size : ℕ) (q : Condensed) (l : Layout) (rules : KeepsRules q) (few : q.panel.count ≤ 2 ^ 48) (k : IsLongestFor size q l) where
  abbrev rows : ℕ
  rows = length q.panel.rows

  abbrev areas : ℕ
  areas = length q.floods

  rows_in : is_rows rows ≡ true
  rows_in = and_from (leb 1 rows) (leb rows 16384) (le-leb 1 rows rules.some) (le-leb rows 16384 rules.few)

  areas_in : is_areas areas ≡ true
  areas_in = and_from (leb 1 areas) (leb areas 64) (le-leb 1 areas rules.areas.0) (le-leb areas 64 rules.areas.1)

  by_limits : (is_segment l.segment ≡ true) × (leb (device_len (of_rows rows areas l.segment V02)) size ≡ true)
  by_limits = and_parts (is_segment l.segment) (leb (device_len (of_rows rows areas l.segment V02)) size) k.fits

  pub layout_in : IsLayout l
  layout_in = record { rows = subst (λ (n : ℕ). is_rows n ≡ true) (sym k.of_rows) rows_in; areas = subst (λ (n : ℕ). is_areas n ≡ true) (sym k.of_areas) areas_in; segment = by_limits.0 }

  pub fits_device : device_len l ≤ size
  fits_device = omega (arith, k.of_rows, k.of_areas, leb-true (device_len (of_rows rows areas l.segment V02)) size by_limits.1)

  pub some_segment : 1 ≤ l.segment
  some_segment = omega (arith, leb-true 4116 l.segment (and_parts (leb 4116 l.segment) (leb l.segment 16777216) by_limits.0).0)

  pub new_sizes : IsOf l.rows l.areas q.panel.count q
  new_sizes = record { by_rows = sym k.of_rows; by_areas = sym k.of_areas; by_count = refl }

  new_image : length (image_text q) ≡ image_size l
  new_image = image_length q rules ∙ (λ i. image_len (new_sizes.by_rows i) (new_sizes.by_areas i))

  abbrev shut : ℕ
  shut = closed_gate l.version

  abbrev head : HalfHead
  head = head_before l.version 1 q

  abbrev body : List ℕ
  body = half_head_text l First head ++ image_text q ++ shut ∷ []

  body_long : length body ≡ 25 + image_size l
  body_long = omega (arith, new_image, head_long l First head, length-append (half_head_text l First head ++ image_text q) (shut ∷ []), length-append (half_head_text l First head) (image_text q))

  pub half_long : length (first_half l q) ≡ 26 + image_size l
  half_long = omega (arith, body_long)

  -- the device as a cut
  fresh_stores : (o rest : List ℕ) → length o + 1 ≡ half_len l → Stores (fresh l q (shut ∷ o) rest) q
  unfolding fresh
  fresh_stores o rest long = record {
    layout = layout_in;
    version = own_version l.version;
    epoch = omega arith;
    image = record { rules = rules; fits = (let s = rules.stamps in omega (arith, s, few)); text = refl };
    sizes = new_sizes;
    count = few;
    frames = tt;
    borne = All-nil (IsBorne l.version);
    admitted = tt;
    runs = refl;
    size = omega (arith, long);
    below = record { older = inl (half_shut l.version); whole = shut_beside l Second (shut ∷ o) (half_shut l.version) };
  }

  fresh_stands : (s o rest : List ℕ) → length s + 1 ≡ l.segment → length o + 1 ≡ half_len l → IsNewDevice size q (device_of (fresh l q (shut ∷ o) rest) (shut ∷ s))
  unfolding fresh
  fresh_stands s o rest by_s by_o =
      let c = fresh l q (shut ∷ o) rest in
      let stores = fresh_stores o rest by_o in
      record {
        stands = record {
          opened = shown c (shut ∷ s);
          opens = shown_opens c q (shut ∷ s) stores (omega (arith, by_s));
          in_epoch = refl;
          base = q;
          spells = record { sum = refl; sizes = stores.sizes; image = stores.image };
          left = suc (length s);
          folds = folds l.version q 1 q.panel.count [] shut s tt (All-nil (IsBorne l.version)) tt (closed_shut l.version);
        };
        longest = k;
      }

  fresh_is : (s o rest : List ℕ) → (165 ∷ []) ++ (header_text l ++ (165 ∷ []) ++ (body ++ (s ++ ((shut ∷ []) ++ (o ++ rest))))) ≡ device_of (fresh l q (shut ∷ o) rest) (shut ∷ s)
  unfolding fresh
  fresh_is s o rest =
      regroup shut (header_text l) (half_head_text l First head) (image_text q) s (shut ∷ o) rest
      ∙ nils (165 ∷ header_text l) (165 ∷ half_head_text l First head ++ image_text q) (shut ∷ s) ((shut ∷ o) ++ rest)

  fresh_version : (s o rest : List ℕ) → length s + 1 ≡ l.segment → length o + 1 ≡ half_len l → IsOfVersion l.version (device_of (fresh l q (shut ∷ o) rest) (shut ∷ s))
  unfolding fresh
  fresh_version s o rest by_s by_o =
      let c = fresh l q (shut ∷ o) rest in
      record { opened = shown c (shut ∷ s); opens = shown_opens c q (shut ∷ s) (fresh_stores o rest by_o) (omega (arith, by_s)); of_header = refl; of_half = refl }

  new_cut : (x : List ℕ) (p : Pieces l x) → with_open_gate (with_empty_half l (header_text l) (shut ∷ body) x) ≡ (165 ∷ []) ++ (header_text l ++ (165 ∷ []) ++ (body ++ (p.s ++ ((shut ∷ []) ++ (p.o ++ p.r)))))
  new_cut x p =
      ap (λ (z : List ℕ). with_open_gate (with_empty_half l (header_text l) (shut ∷ body) z)) p.is
      ∙ all_put l (header_text l) body p.a p.h p.m p.s p.g (p.o ++ p.r) p.by_a p.by_h refl (omega (arith, p.by_m, body_long)) body_long p.by_s p.by_g

  new_is : (x b : List ℕ) → b ≡ with_open_gate (with_empty_half l (header_text l) (shut ∷ body) x) → Pieces l x → IsNewDevice size q b
  new_is x b is p = subst (IsNewDevice size q) (sym (is ∙ new_cut x p ∙ fresh_is p.s p.o p.r)) (fresh_stands p.s p.o p.r p.by_s p.by_o)

  version_is : (x b : List ℕ) → b ≡ with_open_gate (with_empty_half l (header_text l) (shut ∷ body) x) → Pieces l x → IsOfVersion l.version b
  version_is x b is p = subst (IsOfVersion l.version) (sym (is ∙ new_cut x p ∙ fresh_is p.s p.o p.r)) (fresh_version p.s p.o p.r p.by_s p.by_o)

  pub version_here : (b : List ℕ) → IsWritten size l (header_text l) (first_half l q) b → IsOfVersion l.version b
  version_here b w = version_is w.before b w.is (pieces l w.before some_segment (omega (arith, fits_device, w.long)))

  pub new_here : (b : List ℕ) → IsWritten size l (header_text l) (first_half l q) b → IsNewDevice size q b
  new_here b w = new_is w.before b w.is (pieces l w.before some_segment (omega (arith, fits_device, w.long)))

  -- what a crash leaves of a device whose formatting failed
  pub new_leaves : (old new : DeviceState) → Leaves size l (header_text l) (first_half l q) old new → LeavesOf size q old new
  new_leaves old new leaves = ⊎_elim (λ b. inl b) (λ all. inr (λ b image. ⊎_elim (λ u. inl u) (λ w. inr (new_here b w)) (all b image))) leaves
