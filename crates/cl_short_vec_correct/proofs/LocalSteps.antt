-- Where a statement of a unit stands, all is in hand that its lines need: assignments to vectors and declarators of
-- vector variables with initialisers do their steps.
use Rattle.std.proofs.Common.{◌≡◌, ℕ, ◌≤◌, List, [], ◌∷◌, ◌++◌, Option, Some, None, Bool, true, false}
use Rattle.std.proofs.Common.{refl, ap, sym, ◌∙◌, subst}
use Rattle.std.proofs.lemmas.Bool.{false≢true}
use Rattle.std.proofs.lemmas.Option.{none-some}
use Rattle.std.specs.Prelude.{◌||◌}
use Rattle.wg_num.specs.declared.types.Bin.{Bin}
use Rattle.wg_num.specs.declared.types.Place.{Place as Position}
use Rattle.cl_model.specs.Tree.{Program, Function}
use Rattle.cl_model.specs.Lists.{Each, IsOneOf}
use Rattle.cl_tree.specs.Syntax.{Syntax}
use Rattle.cl_meaning.specs.Spelling.{setting_in, intrinsic_in}
use Rattle.cl_meaning.specs.declared.names.Intrinsic.{Intrinsic}
use Rattle.cl_meaning.specs.declared.kind.Role.TheVariants as roles
use Rattle.cl_meaning.specs.Declarations.{word_of}
use Rattle.cl_meaning.specs.Environment.{Env, Variable, Array, meaning_of}
use Rattle.cl_meaning.specs.Faults.{Asked}
use Rattle.cl_check_sound.proofs.Facing.{Finals}
use Rattle.cl_check_sound.proofs.Shapes.{of_expressions}
use Rattle.cl_short_vec.specs.declared.nodes.Span.{Span}
use Rattle.cl_short_vec.specs.Plain.{is_pointed}
use Rattle.cl_short_vec.specs.Kinds.{Names}
use Rattle.cl_short_vec.specs.Marks.{Mark, tree_at, kind_at, marked}
use Rattle.cl_short_vec.specs.Faults.{components_of}
use Rattle.cl_short_vec.specs.Order.{Step, Offset, Number, Copy, Load, Set, Store, type_in, under, named_by}
use Rattle.cl_short_vec.specs.Order.{operator_in}
use Rattle.cl_short_vec.specs.Order.{is_element_in, target_steps, old_steps, steps_of, setting_steps}
use Rattle.cl_short_vec.specs.Parts.{assigned_part}
use Rattle.cl_short_vec.specs.Unit.{assigned_of, lines_of, set_block}
use Rattle.cl_short_vec.proofs.Small.{AllSmall, marked_small}
use Rattle.cl_short_vec_correct.proofs.Parts.{assigned_is}
use Rattle.cl_short_vec_correct.proofs.Steps.{setting_are, lines_are}
use Rattle.cl_short_vec_correct.specs.Doing.{Got}
use Rattle.cl_short_vec_correct.specs.Emits.{Known}
use Rattle.cl_meaning.specs.Visible.{behind}
use Rattle.cl_short_vec_correct.specs.Each.{SettingDoes}
use Rattle.cl_short_vec.proofs.OwnNames.{HasNoBlank, front_blank}
use Rattle.cl_short_vec_correct.proofs.Numbered.{has_declared}
use Rattle.cl_short_vec_correct.proofs.Blocks.{block_owner}
use Rattle.cl_short_vec_correct.proofs.LineWords.{has_point, point_no_intrinsic}
use Rattle.cl_short_vec_correct.proofs.Ready.{Ready}
use Rattle.cl_short_vec_correct.proofs.Fitting.{IsGiven}
use Rattle.cl_short_vec_correct.proofs.Components as components
use Rattle.cl_short_vec_correct.proofs.Seen.{same_called, called_there, Intrinsics, sound_seen}
use Rattle.cl_short_vec_correct.proofs.Values.{setting_worth}
use Rattle.cl_short_vec_correct.proofs.StepFits.{ComponentFits, LeafFits, all_done}
use Rattle.cl_short_vec_correct.proofs.Orders.{target_ordered, old_ordered, steps_ordered, offset_done, all_done_append}
use Rattle.cl_short_vec_correct.proofs.LeavesFit.{NamesFit, leaves_fit}
use Rattle.cl_short_vec_correct.proofs.TargetFits.{PlaceFits, SetBy, set_fits, target_fits, target_is}
use Rattle.cl_short_vec_correct.proofs.Running.{Done}
use Rattle.cl_short_vec_correct.proofs.SettingRuns.{SettingFacts, setting_does}
use Rattle.cl_short_vec_correct.proofs.Stands.{SettingHere}

-- ---- lists of steps

pub each_front : {A : Type 0} (Q : A → Type 0) (xs ys : List A) → Each Q (xs ++ ys) → Each Q xs
each_front Q [] ys h = tt
each_front Q (x ∷ xs) ys h = (h.0, each_front Q xs ys h.1)

pub each_behind : {A : Type 0} (Q : A → Type 0) (xs ys : List A) → Each Q (xs ++ ys) → Each Q ys
each_behind Q [] ys h = h
each_behind Q (x ∷ xs) ys h = each_behind Q xs ys h.1

-- what holds of all steps that are done holds of some of them
pub each_done : (Q : Step → Type 0) (ss done : List Step) → Each Q (all_done ss done) → Each Q ss × Each Q done
each_done Q [] done h = (tt, h)
each_done Q (s ∷ ss) done h = let r = each_done Q ss (s ∷ done) h in ((r.1.0, r.0), r.1.1)

-- a leaf that is done is ready, and gave a value of its type
pub done_ready : (start env : Env) (known : List Known) (got : Got) (s : Step) → Done start env known got s →
    Ready env known got.leaves s × IsGiven got.leaves s
done_ready start env known got (Offset m) h = (tt, tt)
done_ready start env known got (Number of m) h = ((h.variable, h.visible, h.holds), h.fits)
done_ready start env known got (Copy of x c) h = ((h.variable, h.visible, h.holds), h.fits)
done_ready start env known got (Load m c) h = ((h.variable, h.visible, h.holds), h.fits)
done_ready start env known got (Set x c j) h = (tt, tt)
done_ready start env known got (Store m c j) h = (tt, tt)

pub all_ready : (start env : Env) (known : List Known) (got : Got) (ss : List Step) →
    Each (Done start env known got) ss → Each (components.Done env known got.leaves) ss
all_ready start env known got [] h = tt
all_ready start env known got (s ∷ ss) h =
    (done_ready start env known got s h.0, all_ready start env known got ss h.1)

each_small : (cs : List ℕ) → AllSmall cs → Each (λ c. c ≤ 16) cs
each_small [] h = tt
each_small (c ∷ cs) h = (h.0, each_small cs h.1)

-- ---- names that are known without a declaration

-- they hold no point
intrinsic_plain : (q : List ℕ) (i : Intrinsic) → intrinsic_in q ≡ Some i → is_pointed q ≡ false
intrinsic_plain q i h = by (is_pointed q) refl
  where
    pointed : (p : List ℕ) → is_pointed p ≡ true → has_point p ≡ true
    pointed [] k = absurd (false≢true k)
    pointed (b ∷ p) k = ap (λ z. z || has_point p) k

    by : (b : Bool) → is_pointed q ≡ b → b ≡ false
    by true e = absurd (none-some i (sym (point_no_intrinsic q (pointed q e)) ∙ h))
    by false e = refl

pub intrinsics_there : (start env : Env) → env.functions ≡ start.functions →
    ((q : List ℕ) → is_pointed q ≡ false → meaning_of env q ≡ meaning_of start q) → Intrinsics start → Intrinsics env
intrinsics_there start env f n h name i e =
    called_there start env name i (same_called start env name f (n name (intrinsic_plain name i e))) (h name i e)

-- ---- assignments

module _ (P : Program) (g : Function) (asked : Asked) (vars : List Variable) (arrs : List Array)
    (fin : Finals g vars arrs) where
  module _ (names : Names) (env : Env) (s : Span) (w : List ℕ) (ta tb : Syntax)
      (h : SettingHere P g asked vars arrs names env s w ta tb) where
    abbrev o : Option Bin
    o = operator_in (setting_in w)

    abbrev a : Mark
    a = marked names ta

    abbrev b : Mark
    b = marked names tb

    fit : NamesFit env names
    fit = (h.stands.named, h.stands.says)

    place : PlaceFits env a
    place = target_is env ta names h.target h.target_sourced (marked_small ta names h.stands.small) fit h.target_stays
        h.vector

    set : SetBy env (is_element_in (kind_at (under a))) (under a) (components_of a)
    set = set_fits env a (marked_small ta names h.stands.small) place

    leaves : Each (LeafFits env) (target_steps (under a) ++ old_steps o (under a) (components_of a))
    leaves = target_fits env o a (marked_small ta names h.stands.small) place

    variable : is_element_in (kind_at (under a)) ≡ false → HasNoBlank (named_by (tree_at (under a))).name ×
        Each (λ c. ComponentFits env (named_by (tree_at (under a))) c (type_in (kind_at a))) (components_of a)
    variable e = (
      front_blank (word_of (tree_at (under a))),
      subst (λ of. Each (λ c. ComponentFits env (named_by (tree_at (under a))) c of) (components_of a)) place.typed
          (subst (λ z. SetBy env z (under a) (components_of a)) e set),
    )

    element : is_element_in (kind_at (under a)) ≡ true → Each (λ c. c ≤ 16) (components_of a) ×
        (type_in (kind_at (under a)) ≡ type_in (kind_at a)) ×
        IsOneOf (all_done (steps_of (type_in (kind_at a)) b) (all_done (old_steps o (under a) (components_of a))
        (all_done (target_steps (under a)) []))) (Offset (under a))
    element e =
        let t = target_steps (under a) in
        let p = old_steps o (under a) (components_of a) in
        let v = steps_of (type_in (kind_at a)) b in (
          each_small (components_of a) (subst (λ z. SetBy env z (under a) (components_of a)) e set).1,
          place.typed,
          subst (λ z. IsOneOf z (Offset (under a))) (all_done_append t (p ++ v) [] ∙
              all_done_append p v (all_done t [])) (offset_done o a b e),
        )

    facts : SettingFacts P g asked vars arrs fin env o a b
    facts = record {
      plain = h.stands.flags;
      target_ordered = target_ordered (under a) [];
      old_ordered = old_ordered o (under a) (components_of a) [];
      value_ordered = steps_ordered b false (type_in (kind_at a)) (all_done (old_steps o (under a) (components_of a))
          (all_done (target_steps (under a)) []));
      target_fits = each_front (LeafFits env) (target_steps (under a)) (old_steps o (under a) (components_of a)) leaves;
      old_fits = each_behind (LeafFits env) (target_steps (under a)) (old_steps o (under a) (components_of a)) leaves;
      value_fits = leaves_fit env tb names false (type_in (kind_at a)) h.value h.value_sourced
          (marked_small tb names h.stands.small) fit;
      variable = variable;
      element = element;
      shapes = assigned_is (assigned_of o a b);
      values = λ env' known got r j l sound.
          (let d = each_done (Done env env' known got) (steps_of (type_in (kind_at a)) b)
          (all_done (old_steps o (under a) (components_of a)) (all_done (target_steps (under a)) [])) r.held in
          let p = each_done (Done env env' known got) (old_steps o (under a) (components_of a))
          (all_done (target_steps (under a)) []) d.1 in
          setting_worth env' known got.leaves (r.like.flags ∙ h.stands.flags) names names w ta tb j h.stands.whole
          h.stands.whole h.value
          h.vector h.fits h.value_stays (all_ready env env' known got (old_steps o (under a) (components_of a)) p.0)
          (all_ready env env' known got (steps_of (type_in (kind_at a)) b) d.0) l
          (sound_seen asked env' roles.Other (assigned_part (assigned_of o a b) j)
          (intrinsics_there env env' r.like.functions r.names h.stands.known)
          (of_expressions (assigned_part (assigned_of o a b) j) (assigned_is (assigned_of o a b) j)) sound));
    }

    -- the assignment does its steps
    pub setting_local : (sites : List Position) → SettingDoes P env sites s o a b
    setting_local sites =
        setting_does P g asked vars arrs fin env o a b h.stands.scope h.stands.here.at h.stands.here.within h.role s
        facts h.sound (lines_are None (assigned_of o a b) (setting_steps o a b) tt
        (setting_are o ta tb names names (marked_small ta names h.stands.small)
        (marked_small tb names h.stands.small) h.target h.value)) h.ends.0 h.ends.1
        (has_declared P g vars arrs fin env (behind env (set_block s o a b))
        (block_owner env s (lines_of None (assigned_of o a b) (setting_steps o a b))) h.stands.owned h.ends.0) sites
