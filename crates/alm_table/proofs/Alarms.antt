-- Items one after the other.
use Rattle.std.proofs.Common.{◌≡◌, ℕ, ◌+◌, suc, length, true, is_some, List, [], ◌∷◌, ◌++◌, refl, ap, sym, Result, Ok, Err}
use Rattle.std.proofs.lemmas.List.{append_assoc}
use Rattle.toml.specs.Data.{Data, string, integer, float, boolean, datetime, array, table, Items, item, as_table}
use Rattle.toml.specs.View.{items_view}
use Rattle.toml.specs.declared.value.Value.{Value}
use Rattle.alm_table.specs.declared.load_fault.LoadFault.{LoadFault}
use Rattle.alm_table.specs.declared.load_fault.LoadFault.TheVariants.{NotToml, Key, Rows, OutOfMemory}
use Rattle.alm_table.specs.Faults.{IsFaultIn}
use Rattle.alm_table.specs.TableFile.{are_tables, count, AlarmEntry, Misfit, and_then, read_alarm, read_alarms, members_in}

pub tables_step : (d : Data) (ds : Items) → is_some (as_table d) ≡ true → are_tables (item d ds) ≡ are_tables ds
tables_step (string s) ds h = cc
tables_step (integer z) ds h = cc
tables_step (float x) ds h = cc
tables_step (boolean b) ds h = cc
tables_step (datetime t) ds h = cc
tables_step (array xs) ds h = cc
tables_step (table ms) ds h = refl

-- a table at the start of tables
pub tables_first : (d : Data) (ds : Items) → are_tables (item d ds) ≡ true → is_some (as_table d) ≡ true
tables_first (string s) ds h = cc
tables_first (integer z) ds h = cc
tables_first (float x) ds h = cc
tables_first (boolean b) ds h = cc
tables_first (datetime t) ds h = cc
tables_first (array xs) ds h = cc
tables_first (table ms) ds h = refl

pub count_view : (vs : List Value) → count (items_view vs) ≡ length vs
count_view [] = refl
count_view (v ∷ vs) = ap suc (count_view vs)

pub shift : (s : Result (List AlarmEntry) Misfit) (xs : List AlarmEntry) (a : AlarmEntry) → and_then (and_then s (λ later. Ok (a ∷ later))) (λ later. Ok (xs ++ later)) ≡ and_then s (λ later. Ok ((xs ++ a ∷ []) ++ later))
shift (Ok later) xs a = ap Ok (sym (append_assoc xs (a ∷ []) later))
shift (Err e) xs a = refl

-- one more alarm was read
pub step_alarms : (n areas : ℕ) (d : Data) (ds : Items) (xs : List AlarmEntry) (a : AlarmEntry) → read_alarm n areas (members_in d) ≡ Ok a
    → and_then (read_alarms n areas (item d ds)) (λ later. Ok (xs ++ later)) ≡ and_then (read_alarms (n + 1) areas ds) (λ later. Ok ((xs ++ a ∷ []) ++ later))
step_alarms n areas d ds xs a h = rw h (shift (read_alarms (n + 1) areas ds) xs a)

-- a fault stays the fault, whatever would come after it
pub fault_then : {A B : Type 0} → (e : LoadFault) (s : Result A Misfit) (f : A → Result B Misfit) → IsFaultIn e s → IsFaultIn e (and_then s f)
fault_then NotToml s f h = h
fault_then OutOfMemory s f h = tt
fault_then (Key a k) s f h = rw h refl
fault_then Rows s f h = rw h refl
