-- The calls of a formatting in sequence.
use Rattle.std.proofs.Common.{◌≡◌, refl, OnOk}
use Rattle.std.proofs.Common.{inl, inr, ⊎_elim, ℕ, List, [], ◌∷◌, ◌++◌, Result, Ok, Err, sym, ◌∙◌, ap, subst, append_assoc}
use Rattle.std.specs.Prelude.{OnErr}
use Rattle.alm_disk.specs.Device.{DeviceState}
use Rattle.alm_disk.specs.declared.call.Call.{Call}
use Rattle.alm_disk.specs.declared.disk_fault.DiskFault.{DiskFault}
use Rattle.alm_keeper.specs.Moments.{FormatPart, Closing, Behind, Opening, MayLeaveWhile, FormatMoment, IsLedBy, FailsIn}

pub err_map : {A E : Type 0} {P Q : Type 0} (r : Result A E) → (P → Q) → OnErr r P → OnErr r Q
err_map (Ok x) f p = tt
err_map (Err e) f p = f p

may_by : (old new : List ℕ → Type 0) (phase : FormatPart) (b : List ℕ) → (old b → new b) → MayLeaveWhile old phase b → MayLeaveWhile new phase b
may_by old new Closing b f m = m
may_by old new Behind b f m = m
may_by old new Opening b f m = ⊎_elim (λ u. inl u) (λ n. inr (f n)) m

pub ok_with : {E : Type 0} {P : Type 0} (r : Result Unit E) → (r ≡ Ok tt → P) → OnOk r P
ok_with (Ok x) f = f refl
ok_with (Err e) f = tt

pub err_with : {E : Type 0} {P : Type 0} (r : Result Unit E) → ((e : E) → r ≡ Err e → P) → OnErr r P
err_with (Ok x) f = tt
err_with (Err e) f = f e refl

module _ {Dev : Type 0} where
  pub goes_on : (step : Result Unit DiskFault → FormatPart × Call → Dev → Dev → Type 0) (a b c : Dev) (xs ys : List (FormatPart × Call)) → IsLedBy step a xs b → IsLedBy step b ys c → IsLedBy step a (xs ++ ys) c
  goes_on step a b c [] ys goes more = subst (λ (d : Dev). IsLedBy step d ys c) (sym goes) more
  goes_on step a b c (x ∷ xs) ys goes more = (goes.0, goes.1, goes_on step goes.0 b c xs ys goes.2 more)

  pub goes_by : (step new : Result Unit DiskFault → FormatPart × Call → Dev → Dev → Type 0) → ((r : Result Unit DiskFault) (x : FormatPart × Call) (d e : Dev) → step r x d e → new r x d e) → (a b : Dev) (xs : List (FormatPart × Call)) → IsLedBy step a xs b → IsLedBy new a xs b
  goes_by step new f a b [] goes = goes
  goes_by step new f a b (x ∷ xs) goes = (goes.0, f (Ok tt) x a goes.0 goes.1, goes_by step new f goes.0 b xs goes.2)

  pub more_left : (step : Result Unit DiskFault → FormatPart × Call → Dev → Dev → Type 0) (a b : Dev) (xs ys : List (FormatPart × Call)) → FailsIn step a xs b → FailsIn step a (xs ++ ys) b
  more_left step a b xs ys g = record {
    made = g.made;
    call = g.call;
    left = g.left ++ ys;
    are = sym (append_assoc g.made (g.call ∷ g.left) ys) ∙ ap (λ (z : List (FormatPart × Call)). z ++ ys) g.are;
    middle = g.middle;
    goes = g.goes;
    fault = g.fault;
    fails = g.fails;
  }

  pub some_by : (step new : Result Unit DiskFault → FormatPart × Call → Dev → Dev → Type 0) → ((r : Result Unit DiskFault) (x : FormatPart × Call) (d e : Dev) → step r x d e → new r x d e) → (a b : Dev) (xs : List (FormatPart × Call)) → FailsIn step a xs b → FailsIn new a xs b
  some_by step new f a b xs g = record {
    made = g.made;
    call = g.call;
    left = g.left;
    are = g.are;
    middle = g.middle;
    goes = goes_by step new f a g.middle g.made g.goes;
    fault = g.fault;
    fails = f (Err g.fault) g.call g.middle b g.fails;
  }

  pub some_after : (step : Result Unit DiskFault → FormatPart × Call → Dev → Dev → Type 0) (a b c : Dev) (xs ys : List (FormatPart × Call)) → IsLedBy step a xs b → FailsIn step b ys c → FailsIn step a (xs ++ ys) c
  some_after step a b c xs ys goes g = record {
    made = xs ++ g.made;
    call = g.call;
    left = g.left;
    are = append_assoc xs g.made (g.call ∷ g.left) ∙ ap (λ (z : List (FormatPart × Call)). xs ++ z) g.are;
    middle = g.middle;
    goes = goes_on step a b g.middle xs g.made goes g.goes;
    fault = g.fault;
    fails = g.fails;
  }

  pub moment_by : (serves : Dev → Call → Result Unit DiskFault → Dev → Type 0) (state : Dev → DeviceState) (P Q : Type 0) (old new : List ℕ → Type 0) → (P → Q) → (P → (b : List ℕ) → old b → new b)
      → (r : Result Unit DiskFault) (x : FormatPart × Call) (d e : Dev) → FormatMoment serves state Q old r x d e → FormatMoment serves state P new r x d e
  moment_by serves state P Q old new q f r x d e m = record { served = m.served; any_moment = λ p b image. may_by old new x.0 b (f p b) (m.any_moment (q p) b image) }
