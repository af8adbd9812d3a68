-- A commit adds its actions to what a device says, and a closed gate takes them away.
use Rattle.std.proofs.Common.{◌≡◌, ℕ, ◌+◌, ◌*◌, List, [], ◌∷◌, ◌++◌, length, take, drop, refl, sym, ◌∙◌, ap, append_assoc, length-append, Bool, ◌==◌, not, true, false, eqb-true, true≢false, arith}
use Rattle.alm_model.specs.Rules.{AreAdmitted}
use Rattle.alm_model.specs.Step.{run}
use Rattle.alm_codec.specs.declared.asked.Asked.{Asked}
use Rattle.alm_codec.specs.Frames.{IsFrame, asked_actions, frame_body}
use Rattle.alm_segment.specs.Texts.{written}
use Rattle.alm_codec.specs.Versions.{closed_gate, is_open}
use Rattle.alm_checkpoint.specs.Cut.{back, front}
use Rattle.alm_keeper.specs.Formatting.{overwritten}
use Rattle.alm_keeper.specs.Stand.{TakesAsked, account_of}
use Rattle.alm_keeper.specs.Trail.{Says}
use Rattle.alm_keeper.proofs.Commit as commit
use Rattle.alm_keeper.proofs.Gates.{closed_shut, written_open}
use Rattle.alm_keeper.proofs.Fresh.{put_in}
use Rattle.alm_codec.specs.declared.version.Version.{Version}
use Rattle.alm_codec.specs.declared.version.Version.TheVariants.{V03}

module _ (bytes : List ℕ) (before asked : List Asked) (s : Says before bytes) (frame : IsFrame s.cut.version s.cut.epoch (s.plant.panel.count + 1) asked) (admitted : AreAdmitted s.plant (asked_actions asked)) (takes : TakesAsked (account_of s.cut s.plant) asked) where
  abbrev n : ℕ
  n = 19 + 16 * length asked

  abbrev body : List ℕ
  body = frame_body s.cut.version s.cut.epoch (s.plant.panel.count + 1) asked

  abbrev at : ℕ
  at = length (front s.cut)

  abbrev room : List ℕ
  room = take n s.tail

  abbrev left : List ℕ
  left = drop n s.tail ++ back s.cut

  split : (g : ℕ) (f r l b : List ℕ) → f ++ (g ∷ (r ++ l)) ++ b ≡ (f ++ g ∷ []) ++ r ++ (l ++ b)
  split g f r l b = simp append_assoc

  join : (g : ℕ) (f r l : List ℕ) → (f ++ g ∷ []) ++ r ++ l ≡ f ++ (g ∷ []) ++ (r ++ l)
  join g f r l = simp append_assoc

  behind : (g : ℕ) (f r l b : List ℕ) → f ++ (g ∷ []) ++ (r ++ (l ++ b)) ≡ f ++ (g ∷ (r ++ l)) ++ b
  behind g f r l b = simp append_assoc

  again : (g : ℕ) (f r l : List ℕ) → f ++ (g ∷ []) ++ (r ++ l) ≡ f ++ (g ∷ r) ++ l
  again g f r l = simp append_assoc

  cut_up : bytes ≡ (front s.cut ++ s.gate ∷ []) ++ room ++ left
  cut_up = s.text ∙ ap (λ (t : List ℕ). front s.cut ++ (s.gate ∷ t) ++ back s.cut) (sym (commit.parts s.cut s.plant asked s.gate s.tail s.stores frame admitted s.closed s.reaches takes)) ∙ split s.gate (front s.cut) room (drop n s.tail) (back s.cut)

  one : overwritten (at + 1) body bytes ≡ front s.cut ++ (s.gate ∷ []) ++ (body ++ left)
  one = put_in (at + 1) body (front s.cut ++ s.gate ∷ []) room left bytes (front s.cut ++ (s.gate ∷ []) ++ (body ++ left)) cut_up (join s.gate (front s.cut) body left) (sym (length-append (front s.cut) (s.gate ∷ [])))
      (commit.body_long s.cut.version s.cut.epoch (s.plant.panel.count + 1) asked ∙ sym (commit.room_long s.cut s.plant asked s.gate s.tail s.stores frame admitted s.closed s.reaches takes))

  two : overwritten at (165 ∷ []) (overwritten (at + 1) body bytes) ≡ front s.cut ++ (165 ∷ body) ++ left
  two = put_in at (165 ∷ []) (front s.cut) (s.gate ∷ []) (body ++ left) (overwritten (at + 1) body bytes) (front s.cut ++ (165 ∷ body) ++ left) one (again 165 (front s.cut) body left) refl refl

  pub commit_says : Says (before ++ asked) (overwritten at (165 ∷ []) (overwritten (at + 1) body bytes))
  commit_says =
      let opened = written_open s.cut.version in
      record {
        cut = commit.grown_cut s.cut s.plant asked s.gate s.tail s.stores frame admitted s.closed s.reaches takes 165 opened;
        plant = run s.plant (asked_actions asked);
        stores = commit.grown s.cut s.plant asked s.gate s.tail s.stores frame admitted s.closed s.reaches takes 165 opened;
        gate = closed_gate s.cut.version;
        closed = closed_shut s.cut.version;
        tail = drop n s.tail;
        reaches = commit.grown_reaches s.cut s.plant asked s.gate s.tail s.stores frame admitted s.closed s.reaches takes 165 opened;
        text = two ∙ commit.grown_text s.cut s.plant asked s.gate s.tail s.stores frame admitted s.closed s.reaches takes 165 opened;
        said = ap (λ (l : List Asked). l ++ asked) s.said ∙ sym (commit.asked_pushed s.cut.frames (written asked));
      }

  -- with its gate closed the frame is not there
  module _ (g : ℕ) (closed : is_open s.cut.version g ≡ false) where
    three : overwritten at (g ∷ []) (overwritten at (165 ∷ []) (overwritten (at + 1) body bytes)) ≡ front s.cut ++ (g ∷ []) ++ (body ++ left)
    three = put_in at (g ∷ []) (front s.cut) (165 ∷ []) (body ++ left) (overwritten at (165 ∷ []) (overwritten (at + 1) body bytes)) (front s.cut ++ (g ∷ []) ++ (body ++ left)) (two ∙ sym (again 165 (front s.cut) body left)) refl refl refl

    pub closed_says : Says before (overwritten at (g ∷ []) (overwritten at (165 ∷ []) (overwritten (at + 1) body bytes)))
    closed_says = record {
      cut = s.cut;
      plant = s.plant;
      stores = s.stores;
      gate = g;
      closed = closed;
      tail = body ++ drop n s.tail;
      reaches = omega (
        arith,
        s.reaches,
        length-append body (drop n s.tail),
        commit.body_long s.cut.version s.cut.epoch (s.plant.panel.count + 1) asked,
        commit.left_long s.cut s.plant asked s.gate s.tail s.stores frame admitted s.closed s.reaches takes,
      );
      text = three ∙ behind g (front s.cut) body (drop n s.tail) (back s.cut);
      said = s.said;
    }

  -- as it was before the gate was opened
  pub same_gate : (g : ℕ) → g ≡ s.gate → overwritten at (g ∷ []) (overwritten at (165 ∷ []) (overwritten (at + 1) body bytes)) ≡ overwritten (at + 1) body bytes
  same_gate g is = three g (ap (is_open s.cut.version) is ∙ s.closed) ∙ ap (λ (h : ℕ). front s.cut ++ (h ∷ []) ++ (body ++ left)) is ∙ sym one

-- in version 03 one value closes a gate
pub one_closed : (version : Version) (g : ℕ) → version ≡ V03 → is_open version g ≡ false → 90 ≡ g
one_closed version g is closed = sym (by_value (g == 90) refl (ap (λ (v : Version). is_open v g) (sym is) ∙ closed))
  where
    by_value : (b : Bool) → (g == 90) ≡ b → not b ≡ false → g ≡ 90
    by_value true e shut = eqb-true g 90 e
    by_value false e shut = absurd (true≢false shut)
