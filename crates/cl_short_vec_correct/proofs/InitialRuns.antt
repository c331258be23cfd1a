-- A declarator of a vector variable with its initialiser does its steps: its lines stand for them.
use Rattle.std.proofs.Common.{◌≡◌, ℕ, zero, suc, ◌+◌, ◌≤◌, ◌<◌, List, [], ◌∷◌, length, Some, Bool, true, false}
use Rattle.std.proofs.lemmas.Bool.{false≢true}
use Rattle.std.specs.Prelude.{nat_eq, ◌||◌}
use Rattle.std.proofs.Common.{refl, ap, sym, ◌∙◌, subst, inl, inr, ◌⊎◌, arith}
use Rattle.wg_num.specs.declared.types.Place.{Place as Position}
use Rattle.cl_model.specs.Tree.{Program, Function}
use Rattle.cl_model.specs.Lists.{Each}
use Rattle.cl_tree.specs.declared.tree.Form.TheVariants as forms
use Rattle.cl_meaning.specs.declared.types.Declared.{Declared}
use Rattle.cl_meaning.specs.declared.kind.Meaning.TheVariants as meanings
use Rattle.cl_meaning.specs.declared.kind.Role.TheVariants as roles
use Rattle.cl_meaning.specs.Environment.{Env, Variable, Array, meaning_of}
use Rattle.cl_meaning.specs.Visible.{behind_parts}
use Rattle.cl_meaning.specs.Faults.{Asked}
use Rattle.cl_meaning.specs.Statements.{all_lines}
use Rattle.cl_meaning.specs.Meant.{parts_meant}
use Rattle.cl_check_sound.specs.Shape.{IsExpression}
use Rattle.cl_check_sound.specs.Sound.{SoundTree}
use Rattle.cl_check_sound.proofs.Grown.{extends_same}
use Rattle.cl_check_sound.proofs.Facing.{Finals}
use Rattle.cl_short_vec.specs.declared.types.Vector.{Vector}
use Rattle.cl_short_vec.specs.Types.{numbers}
use Rattle.cl_short_vec.specs.Plain.{is_pointed}
use Rattle.cl_short_vec.specs.Marks.{Mark, tree_at}
use Rattle.cl_short_vec.specs.Order.{Named, Step, sets, steps_of, initial_steps}
use Rattle.cl_short_vec.specs.Parts.{Assigned, assigned_part}
use Rattle.cl_short_vec.specs.Unit.{lines_of, declared_name, declarator_lines}
use Rattle.cl_short_vec_correct.specs.Values.{nth, set_list}
use Rattle.cl_short_vec_correct.proofs.Worths.{set_worth}
use Rattle.cl_short_vec_correct.specs.Doing.{Got, nothing_got, leaves_among, Helps, Aside, HasDeclared}
use Rattle.cl_short_vec_correct.specs.Emits.{Known, Emits}
use Rattle.cl_short_vec_correct.specs.Each.{initial_of, DeclaratorDoes}
use Rattle.cl_short_vec_correct.proofs.Does.{steps_done}
use Rattle.cl_short_vec_correct.proofs.Listed.{does_other, vec_at, initial_below}
use Rattle.cl_short_vec_correct.proofs.Adds.{IsOwn}
use Rattle.cl_short_vec.proofs.OwnNames.{HasNoBlank}
use Rattle.cl_short_vec_correct.proofs.LineWords.{has_point}
use Rattle.cl_short_vec_correct.proofs.Declared.{behind_typed}
use Rattle.cl_short_vec_correct.proofs.Trees.{Typed}
use Rattle.cl_short_vec_correct.proofs.StepFits.{LeafFits, Ordered, all_done}
use Rattle.cl_short_vec_correct.proofs.Running.{Done, Running, same_name}
use Rattle.cl_short_vec_correct.proofs.LeafLines.{has_below}
use Rattle.cl_short_vec_correct.proofs.LeafRuns.{Place, Reached, leaves_run, leaves_reach}
use Rattle.cl_short_vec_correct.proofs.DeclareRuns.{Around, TypeFits, IsAside, declares_run, declares_aside}
use Rattle.cl_short_vec_correct.proofs.Blocks.{starts}
use Rattle.cl_short_vec_correct.proofs.SettingRuns.{leaves_front}

counted_numbers : (n first : ℕ) → length (numbers first 1 n) ≡ n
counted_numbers zero first = refl
counted_numbers (suc n) first = ap suc (counted_numbers n (first + 1))

no_leaves : (x : Named) (cs : List ℕ) (j : ℕ) → leaves_among (sets x cs j) ≡ 0
no_leaves x [] j = refl
no_leaves x (c ∷ cs) j = no_leaves x cs (suc j)

-- names without a point do not begin with one
plain_name : (q : List ℕ) → has_point q ≡ false → is_pointed q ≡ false
plain_name [] h = refl
plain_name (b ∷ q) h = front_false (nat_eq b 46) (has_point q) h
  where
    front_false : (x y : Bool) → (x || y) ≡ false → x ≡ false
    front_false true y k = absurd (false≢true (sym k))
    front_false false y k = refl

running_around : {start env : Env} {known : List Known} {got : Got} {done : List Step} →
    Running start env known got done → Around start env
running_around r = record {
  names = λ q h. r.names q (plain_name q h);
  functions = r.like.functions;
  flags = r.like.flags;
}

module _ (P : Program) (g : Function) (asked : Asked) (vars : List Variable) (arrs : List Array)
    (fin : Finals g vars arrs) (start : Env) (v : Vector) (type d e : Mark) where
  abbrev pub x : Named
  x = declared_name (tree_at d)

  abbrev pub a : Assigned
  a = initial_of v d e

  abbrev pub value_part : List Step
  value_part = steps_of v.of e

  abbrev pub new_part : List Step
  new_part = sets x (numbers 0 1 v.count) 0

  -- what is asked of the declarator
  pub record InitialFacts : Type 0 where
    pub plain : start.flags ≡ false
    pub value_ordered : Ordered [] value_part
    pub value_fits : Each (LeafFits start) value_part
    pub declared : Declared
    pub own : IsOwn declared.space
    pub typed : declared.of ≡ v.of
    pub blank : HasNoBlank x.name
    pub types : (env : Env) → TypeFits env type declared
    pub shapes : (j : ℕ) → IsExpression (assigned_part a j)
    pub values : (env : Env) (known : List Known) (got : Got) → Around start env →
        Each (Done start env known got) (all_done value_part []) → (j : ℕ) → j < v.count →
        SoundTree asked (behind_typed env declared) roles.Other (assigned_part a j) →
        Typed (behind_typed env declared) known (assigned_part a j) v.of (set_worth a got.leaves j)

  module _ (facts : InitialFacts) (q : Place P g asked vars arrs fin start (declarator_lines v type d (Some e))) where
    abbrev steps : List Step
    steps = initial_steps v x e

    abbrev behind_lines : Env
    behind_lines = behind_parts start forms.BlockNode false (declarator_lines v type d (Some e))

    abbrev limit : ℕ
    limit = length start.variables + leaves_among steps

    counted : leaves_among steps ≡ length value_part
    counted =
        let n = no_leaves x (numbers 0 1 v.count) 0 in
        let h = leaves_front start value_part new_part facts.value_fits in omega arith

    helped : (y : ℕ) → length start.variables ≤ y → y < limit → Helps start steps y
    helped y l m = (l, m)

    reached : Reached P g asked vars arrs fin start behind_lines q.scope (Helps start steps) (set_worth a) limit
        facts.plain q.at.seen q.at.below helped (Some type) a value_part [] start new_part
    reached = let c = counted in
        leaves_reach P g asked vars arrs fin start behind_lines q.scope (Helps start steps) (set_worth a) limit
        facts.plain q.at.seen q.at.below helped (Some type) a value_part [] start [] nothing_got new_part
        facts.value_ordered facts.value_fits (starts start q.within.deep) q (omega arith)
        (extends_same behind_lines.variables)

    -- the lines of the components, behind those of the leaves; what is visible there is what was reached
    new_run : (env : Env) (sites : List Position) (known : List Known) (got : Got) →
        Running start env known got (all_done value_part []) →
        Place P g asked vars arrs fin env (lines_of (Some type) a new_part) →
        behind_lines ≡ behind_parts env forms.BlockNode false (lines_of (Some type) a new_part) →
        Emits start behind_lines (Helps start steps) (set_worth a) known got new_part
        (all_lines (parts_meant env forms.BlockNode false sites (lines_of (Some type) a new_part)).pieces)
    new_run env sites known got r p b =
        let n = counted_numbers v.count 0 in
        declares_run P g asked vars arrs fin start (Helps start steps) a type facts.declared facts.own x facts.blank
        facts.types facts.shapes behind_lines known got (all_done value_part []) v.count
        (λ env' j l r' h s. subst (λ z. Typed (behind_typed env' facts.declared) known (assigned_part a j) z
        (set_worth a got.leaves j)) (sym facts.typed) (facts.values env' known got r' h j l s))
        (numbers 0 1 v.count) 0 env sites (omega arith) r.inner (running_around r) r.held r.own p b

    initial_emits : (sites : List Position) → Emits start behind_lines (Helps start steps) (set_worth a) [] nothing_got
        steps (all_lines (parts_meant start forms.BlockNode false sites (declarator_lines v type d (Some e))).pieces)
    initial_emits sites =
        let c = counted in
        leaves_run P g asked vars arrs fin start behind_lines q.scope (Helps start steps) (set_worth a) limit
        facts.plain
        q.at.seen q.at.below helped (Some type) a value_part [] start sites [] nothing_got new_part facts.value_ordered
        facts.value_fits (starts start q.within.deep) q (omega arith) (extends_same behind_lines.variables)
        (λ env' sites' known' got' r' q' n' b'. new_run env' sites' known' got' r' q' b')

    -- what names of the source stand for behind the leaves was there at the statement
    before_all : IsAside P g asked vars arrs fin start (Helps start steps) a type facts.declared facts.own x facts.blank
        facts.types facts.shapes limit reached.env'
    before_all t of constant y h m = inl (has_below q.scope (length start.variables) y q.at.below
        (q.at.seen t (meanings.Scalar of constant y) (sym (same_name reached.running t h) ∙ m)))

    aside : Aside start behind_lines steps
    aside t of constant y h m help =
        let c = counted in
        let n = reached.count in
        by (declares_aside P g asked vars arrs fin start (Helps start steps) a type facts.declared facts.own x
        facts.blank
        facts.types facts.shapes limit (numbers 0 1 v.count) 0 reached.env' reached.running.inner (omega arith)
        before_all
        reached.place t of constant y h (ap (λ z. meaning_of z t) (sym reached.behind') ∙ m))
      where
        by : (y < length start.variables) ⊎ (limit ≤ y) → ⊥
        by (inl l) = let b = help.0 in absurd (omega arith)
        by (inr l) = let b = help.1 in absurd (omega arith)

    -- the declarator does its steps
    pub declarator_does : HasDeclared P behind_lines → (sites : List Position) →
        DeclaratorDoes P start sites v type d (Some e)
    declarator_does declared sites = (
      aside,
      does_other P start behind_lines steps v.count (set_worth a)
          (λ leaves. nth (set_list v.count a leaves)) _
          (λ leaves j l. sym (vec_at leaves v.count a.value j l)) (initial_below v x e)
          (steps_done P start behind_lines steps (set_worth a) (all_lines (parts_meant start forms.BlockNode false sites
          (declarator_lines v type d (Some e))).pieces) declared (initial_emits sites)).0,
    )
