-- A statement that sets a vector does its steps: its block stands for them.
use Rattle.std.proofs.Common.{◌≡◌, ℕ, suc, ◌+◌, ◌≤◌, ◌<◌, nat_eq, List, [], ◌∷◌, ◌++◌, length, Option, Some, None, Bool}
use Rattle.std.proofs.Common.{true, false, if◌then◌else◌, refl, ap, sym, ◌∙◌, subst, arith}
use Rattle.std.proofs.lemmas.Bool.Decides.{nat_tests}
use Rattle.std.specs.Prelude.{codes}
use Rattle.wg_num.specs.declared.types.IntType.{IntType}
use Rattle.wg_num.specs.declared.types.Bin.{Bin}
use Rattle.wg_num.specs.declared.types.Place.{Place as Position}
use Rattle.cl_model.specs.Tree.{Program, Function}
use Rattle.cl_model.specs.Lists.{Each, IsOneOf}
use Rattle.cl_model.specs.Valid.{Scope}
use Rattle.cl_tree.specs.declared.tree.Form.TheVariants as forms
use Rattle.cl_tree.specs.Syntax.{Syntax, Forest, more, last_of}
use Rattle.cl_meaning.specs.declared.kind.Meaning.TheVariants as meanings
use Rattle.cl_meaning.specs.declared.kind.Role.{Role}
use Rattle.cl_meaning.specs.declared.kind.Role.TheVariants as roles
use Rattle.cl_meaning.specs.Environment.{Env, Variable, Array, meaning_of, meaning_in, found_in}
use Rattle.cl_meaning.specs.Visible.{Before, inside, later, behind, behind_parts, opened, apart}
use Rattle.cl_meaning.specs.Faults.{Asked}
use Rattle.cl_meaning.specs.Statements.{all_lines}
use Rattle.cl_meaning.specs.Meant.{parts_meant}
use Rattle.cl_check_sound.specs.Shape.{IsExpression, AreLines}
use Rattle.cl_check_sound.specs.Sound.{SoundTree, SoundParts}
use Rattle.cl_check_sound.proofs.Grown.{Extends, extends_same, Within}
use Rattle.cl_check_sound.proofs.Growing.{StatementGrows, LinesGrow, SwitchGrows, growing}
use Rattle.cl_check_sound.proofs.Facing.{Finals, At}
use Rattle.cl_check_sound.proofs.Induction.{of_statement}
use Rattle.cl_check_sound.proofs.Parts.{line_sound, block_behind}
use Rattle.cl_check_sound.proofs.Shapes.{of_expressions}
use Rattle.cl_check_sound.proofs.Neutral.{neutral}
use Rattle.cl_short_vec.specs.declared.nodes.Span.{Span}
use Rattle.cl_short_vec.specs.Marks.{Mark, tree_at, kind_at}
use Rattle.cl_short_vec.specs.Faults.{components_of}
use Rattle.cl_short_vec.specs.Nodes.{span_of, component_name, statement_at}
use Rattle.cl_short_vec.specs.Order.{Named, Step, Offset, Number, Copy, Load, Set, Store, stores, sets, type_in, under}
use Rattle.cl_short_vec.specs.Order.{named_by, is_element_in, target_steps, old_steps, steps_of, new_steps}
use Rattle.cl_short_vec.specs.Order.{setting_steps}
use Rattle.cl_short_vec.specs.Parts.{Assigned, assigned_part}
use Rattle.cl_short_vec.specs.Unit.{set_line, store_line, lines_of, assigned_of, set_block}
use Rattle.cl_short_vec_correct.specs.Values.{nth, set_list}
use Rattle.cl_short_vec_correct.proofs.Worths.{set_worth}
use Rattle.cl_short_vec_correct.specs.Doing.{Got, nothing_got, leaves_among, Helps, Aside, HasDeclared, DoSteps}
use Rattle.cl_short_vec_correct.specs.Emits.{Known, Emits}
use Rattle.cl_short_vec_correct.specs.Each.{SettingDoes}
use Rattle.cl_short_vec_correct.proofs.Does.{steps_done}
use Rattle.cl_short_vec_correct.proofs.Listed.{does_other, set_listed, setting_below}
use Rattle.cl_short_vec.proofs.OwnNames.{HasNoBlank}
use Rattle.cl_short_vec_correct.proofs.Pieces.{variable_behind}
use Rattle.cl_short_vec_correct.proofs.Lines.{set_behind, store_behind, helped_behind}
use Rattle.cl_short_vec_correct.proofs.Trees.{Typed}
use Rattle.cl_short_vec_correct.proofs.StepFits.{ComponentFits, LeafFits, Ordered, all_done}
use Rattle.cl_short_vec_correct.proofs.Running.{Running, same_name}
use Rattle.cl_short_vec_correct.proofs.LeafLines.{has_below, fresh_below, above_all}
use Rattle.cl_short_vec_correct.proofs.LeafRuns.{Place, pointed_of, leaves_run}
use Rattle.cl_short_vec_correct.proofs.SetRuns.{SetFits, sets_run, stores_run}
use Rattle.cl_short_vec_correct.proofs.Blocks.{front_behind, starts_inside, block_place, block_lines_meant}

-- ---- the values are not at fault

value_of_statement : (asked : Asked) (env : Env) (role : Role) (s : Span) (t e : Syntax) → behind env t ≡ env →
    SoundTree asked env role (statement_at s t e) → SoundTree asked env roles.Other e
unfolding inside later
value_of_statement asked env role s t e b h = subst (λ z. SoundTree asked z roles.Other e) b h.0.0.0.1.0

-- this number, or a later one
abbrev Among : ℕ → ℕ → ℕ → Type 0
Among first count i = (first ≤ i) × (i < first + count)

module _ (asked : Asked) (a : Assigned) (shapes : (j : ℕ) → IsExpression (assigned_part a j)) where
  leaves_value : (env : Env) (j : ℕ) → behind env (assigned_part a j) ≡ env
  leaves_value env j = neutral env (assigned_part a j) (of_expressions (assigned_part a j) (shapes j))

  -- lines that leave what is visible: their values, by number
  next_value : (env : Env) (p : Syntax) (ps : Forest) (b : Before) → behind env p ≡ env →
      SoundParts asked env forms.BlockNode b (more p ps) → SoundParts asked env forms.BlockNode (Some (last_of p)) ps
  next_value env p ps b e s =
      subst (λ z. SoundParts asked z forms.BlockNode (Some (last_of p)) ps) e (line_sound asked env b p ps s).1

  pub sets_sound : (x : Named) (cs : List ℕ) (j : ℕ) (env : Env) (b : Before) →
      SoundParts asked env forms.BlockNode b (lines_of None a (sets x cs j)) → (i : ℕ) → Among j (length cs) i →
      SoundTree asked env roles.Other (assigned_part a i)
  sets_sound x [] j env b s i l = absurd (no_room j i l.0 l.1)
    where
      no_room : (j i : ℕ) → j ≤ i → i < j + 0 → ⊥
      no_room j i l m = absurd (omega arith)
  sets_sound x (c ∷ cs) j env b s i l =
      let p = set_line None x c (assigned_part a j) in
      let ps = lines_of None a (sets x cs (suc j)) in
      by (nat_eq i j) refl (value_of_statement asked env roles.Other x.span _ (assigned_part a j)
      (variable_behind env (component_name x.name c) x.span.first x.span.last) (line_sound asked env b p ps s).0)
      (λ k. sets_sound x cs (suc j) env (Some (last_of p))
      (next_value env p ps b (set_behind env x c (assigned_part a j) (leaves_value env j)) s) i k)
    where
      by : (z : Bool) → nat_eq i j ≡ z → SoundTree asked env roles.Other (assigned_part a j) →
          (Among (suc j) (length cs) i → SoundTree asked env roles.Other (assigned_part a i)) →
          SoundTree asked env roles.Other (assigned_part a i)
      by true e h g = let same : j ≡ i = grind (arith, nat_tests) in
          subst (λ k. SoundTree asked env roles.Other (assigned_part a k)) same h
      by false e h g = let low : suc j ≤ i = grind (arith, nat_tests) in
          let high : i < suc j + length cs = omega arith in g (low, high)

  pub stores_sound : (m : Mark) (cs : List ℕ) (j : ℕ) (env : Env) (b : Before) →
      SoundParts asked env forms.BlockNode b (lines_of None a (stores m cs j)) → (i : ℕ) → Among j (length cs) i →
      SoundTree asked env roles.Other (assigned_part a i)
  stores_sound m [] j env b s i l = absurd (no_room j i l.0 l.1)
    where
      no_room : (j i : ℕ) → j ≤ i → i < j + 0 → ⊥
      no_room j i l m = absurd (omega arith)
  stores_sound m (c ∷ cs) j env b s i l =
      let p = store_line m c (assigned_part a j) in
      let ps = lines_of None a (stores m cs (suc j)) in
      by (nat_eq i j) refl (value_of_statement asked env roles.Other (span_of (tree_at m)) _ (assigned_part a j)
      (helped_behind env (span_of (tree_at m)) c) (line_sound asked env b p ps s).0)
      (λ k. stores_sound m cs (suc j) env (Some (last_of p))
      (next_value env p ps b (store_behind env m c (assigned_part a j) (leaves_value env j)) s) i k)
    where
      by : (z : Bool) → nat_eq i j ≡ z → SoundTree asked env roles.Other (assigned_part a j) →
          (Among (suc j) (length cs) i → SoundTree asked env roles.Other (assigned_part a i)) →
          SoundTree asked env roles.Other (assigned_part a i)
      by true e h g = let same : j ≡ i = grind (arith, nat_tests) in
          subst (λ k. SoundTree asked env roles.Other (assigned_part a k)) same h
      by false e h g = let low : suc j ≤ i = grind (arith, nat_tests) in
          let high : i < suc j + length cs = omega arith in g (low, high)

-- ---- how many leaves there are

pub leaves_front : (start : Env) (xs ys : List Step) → Each (LeafFits start) xs →
    leaves_among (xs ++ ys) ≡ length xs + leaves_among ys
leaves_front start [] ys h = none_less (leaves_among ys)
  where
    none_less : (n : ℕ) → n ≡ 0 + n
    none_less n = omega arith
leaves_front start (Offset m ∷ xs) ys h = let e = leaves_front start xs ys h.1 in omega arith
leaves_front start (Number of m ∷ xs) ys h = let e = leaves_front start xs ys h.1 in omega arith
leaves_front start (Copy of x c ∷ xs) ys h = let e = leaves_front start xs ys h.1 in omega arith
leaves_front start (Load m c ∷ xs) ys h = let e = leaves_front start xs ys h.1 in omega arith
leaves_front start (Set x c j ∷ xs) ys h = absurd h.0
leaves_front start (Store m c j ∷ xs) ys h = absurd h.0

-- ---- the statement

module _ (P : Program) (g : Function) (asked : Asked) (vars : List Variable) (arrs : List Array)
    (fin : Finals g vars arrs) (start : Env) (o : Option Bin) (target value : Mark) where
  abbrev pub cs : List ℕ
  cs = components_of target

  abbrev pub place : Mark
  place = under target

  abbrev pub of : IntType
  of = type_in (kind_at target)

  abbrev pub a : Assigned
  a = assigned_of o target value

  -- the leaves' steps in order, and those that are done behind them
  abbrev pub target_part : List Step
  target_part = target_steps place

  abbrev pub old_part : List Step
  old_part = old_steps o place cs

  abbrev pub value_part : List Step
  value_part = steps_of of value

  abbrev pub leaves_done : List Step
  leaves_done = all_done value_part (all_done old_part (all_done target_part []))

  -- what is asked of the statement
  pub record SettingFacts : Type 0 where
    pub plain : start.flags ≡ false
    pub target_ordered : Ordered [] target_part
    pub old_ordered : Ordered (all_done target_part []) old_part
    pub value_ordered : Ordered (all_done old_part (all_done target_part [])) value_part
    pub target_fits : Each (LeafFits start) target_part
    pub old_fits : Each (LeafFits start) old_part
    pub value_fits : Each (LeafFits start) value_part
    pub variable : is_element_in (kind_at place) ≡ false → HasNoBlank (named_by (tree_at place)).name ×
        Each (λ c. ComponentFits start (named_by (tree_at place)) c of) cs
    pub element : is_element_in (kind_at place) ≡ true →
        Each (λ c. c ≤ 16) cs × (type_in (kind_at place) ≡ of) × IsOneOf leaves_done (Offset place)
    pub shapes : (j : ℕ) → IsExpression (assigned_part a j)
    pub values : (env : Env) (known : List Known) (got : Got) → Running start env known got leaves_done → (j : ℕ) →
        j < length cs → SoundTree asked env roles.Other (assigned_part a j) →
        Typed env known (assigned_part a j) of (set_worth a got.leaves j)

  module _ (scope : Scope) (at : At P g asked.missing scope start) (within : Within start) (role : Role) (s : Span)
      (facts : SettingFacts) (sound : SoundTree asked start role (set_block s o target value))
      (shaped : AreLines (lines_of None a (setting_steps o target value)))
      (variables : Extends (behind start (set_block s o target value)).variables vars)
      (arrays : Extends (behind start (set_block s o target value)).arrays arrs) where
    abbrev steps : List Step
    steps = setting_steps o target value

    abbrev behind_block : Env
    behind_block = behind start (set_block s o target value)

    abbrev limit : ℕ
    limit = length start.variables + leaves_among steps

    -- a block leaves the scopes as they were
    same_behind : (q : List ℕ) → meaning_of behind_block q ≡ meaning_of start q
    same_behind q = ap (λ z. meaning_in (found_in z q)) (of_statement asked StatementGrows LinesGrow SwitchGrows
        (growing asked) start [] role (set_block s o target value) shaped sound within).same

    new_count : (b : Bool) → leaves_among (if b then stores place cs 0 else sets (named_by (tree_at place)) cs 0) ≡ 0
    new_count true = no_stores cs 0
      where
        no_stores : (ks : List ℕ) (j : ℕ) → leaves_among (stores place ks j) ≡ 0
        no_stores [] j = refl
        no_stores (k ∷ ks) j = no_stores ks (suc j)
    new_count false = no_sets cs 0
      where
        no_sets : (ks : List ℕ) (j : ℕ) → leaves_among (sets (named_by (tree_at place)) ks j) ≡ 0
        no_sets [] j = refl
        no_sets (k ∷ ks) j = no_sets ks (suc j)

    counted : leaves_among steps ≡ length target_part + (length old_part + length value_part)
    counted =
        let n = new_count (is_element_in (kind_at place)) in
        let e1 = leaves_front start target_part (old_part ++ (value_part ++ new_steps place cs)) facts.target_fits in
        let e2 = leaves_front start old_part (value_part ++ new_steps place cs) facts.old_fits in
        let e3 = leaves_front start value_part (new_steps place cs) facts.value_fits in
        omega arith

    -- the components are set or stored
    new_run : (env : Env) (sites : List Position) (known : List Known) (got : Got) →
        Running start env known got leaves_done → Place P g asked vars arrs fin env (lines_of None a (new_steps place
        cs)) →
        Emits start behind_block (Helps start steps) (set_worth a) known got (new_steps place cs)
        (all_lines (parts_meant env forms.BlockNode false sites (lines_of None a (new_steps place cs))).pieces)
    new_run env sites known got r q = by (is_element_in (kind_at place)) refl q
      where
        flags : env.flags ≡ false
        flags = r.like.flags ∙ facts.plain

        fits : (x : Named) (ks : List ℕ) → Each (λ c. ComponentFits start x c of) ks →
            Each (SetFits env behind_block known x of) ks
        fits x [] h = tt
        fits x (c ∷ ks) h =
            let k = h.0 in
            let y = at.seen (component_name x.name c) (meanings.Scalar of k.constant k.variable) k.visible in (
              record {
                constant = k.constant;
                variable = k.variable;
                visible = same_name r (component_name x.name c) k.sourced ∙ k.visible;
                behind' = same_behind (component_name x.name c) ∙ k.visible;
                fresh = fresh_below (length start.variables) k.variable known
                    (has_below scope (length start.variables) k.variable at.below y)
                    (above_all (length start.variables) (length env.variables) known r.own);
              },
              fits x ks h.1,
            )

        by : (b : Bool) → is_element_in (kind_at place) ≡ b → Place P g asked vars arrs fin env
            (lines_of None a (if b then stores place cs 0 else sets (named_by (tree_at place)) cs 0)) →
            Emits start behind_block (Helps start steps) (set_worth a) known got
            (if b then stores place cs 0 else sets (named_by (tree_at place)) cs 0)
            (all_lines (parts_meant env forms.BlockNode false sites
            (lines_of None a (if b then stores place cs 0 else sets (named_by (tree_at place)) cs 0))).pieces)
        by true e q =
            let h = facts.element e in
            stores_run start behind_block (Helps start steps) a env known got flags place cs 0 sites
            (pointed_of leaves_done place h.2 r.held) h.0
            (λ j l m. subst (λ z. Typed env known (assigned_part a j) z (set_worth a got.leaves j)) (sym h.1)
            (facts.values env known got r j (omega arith)
            (stores_sound asked a facts.shapes place cs 0 env q.before q.sound j (l, m))))
        by false e q =
            let h = facts.variable e in
            sets_run start behind_block (Helps start steps) a env known got flags (named_by (tree_at place)) of cs 0
            sites
            h.0 (fits (named_by (tree_at place)) cs h.1)
            (λ j l m. facts.values env known got r j (omega arith)
            (sets_sound asked a facts.shapes (named_by (tree_at place)) cs 0 env q.before q.sound j (l, m)))

    unseen : Each (λ x. x < length start.variables) scope
    unseen = at.below

    helped : (y : ℕ) → length start.variables ≤ y → y < limit → Helps start steps y
    helped y l m = (l, m)

    -- all lines, leaves first
    abbrev Runs : (ss done : List Step) → List Step → Type 0
    Runs ss done rest = (env : Env) (sites : List Position) (known : List Known) (got : Got) →
        Running start env known got done → Place P g asked vars arrs fin env (lines_of None a (ss ++ rest)) →
        Emits start behind_block (Helps start steps) (set_worth a) known got (ss ++ rest)
        (all_lines (parts_meant env forms.BlockNode false sites (lines_of None a (ss ++ rest))).pieces)

    -- what is declared up to the end of these lines is declared up to the end of the block
    abbrev Ends : Env → List Step → Type 0
    Ends env ss =
        Extends (behind_parts env forms.BlockNode false (lines_of None a ss)).variables behind_block.variables

    value_runs : (env : Env) (sites : List Position) (known : List Known) (got : Got) →
        Running start env known got (all_done old_part (all_done target_part [])) →
        Place P g asked vars arrs fin env (lines_of None a (value_part ++ new_steps place cs)) →
        length env.variables ≡ (length start.variables + length target_part) + length old_part →
        Ends env (value_part ++ new_steps place cs) →
        Emits start behind_block (Helps start steps) (set_worth a) known got (value_part ++ new_steps place cs)
        (all_lines (parts_meant env forms.BlockNode false sites
        (lines_of None a (value_part ++ new_steps place cs))).pieces)
    value_runs env sites known got r q e x =
        let c = counted in
        leaves_run P g asked vars arrs fin start behind_block scope (Helps start steps) (set_worth a) limit facts.plain
        at.seen at.below helped None a value_part (all_done old_part (all_done target_part [])) env sites known got
        (new_steps place cs) facts.value_ordered facts.value_fits r q (omega arith) x
        (λ env' sites' known' got' r' q' e' b'. new_run env' sites' known' got' r' q')

    old_runs : (env : Env) (sites : List Position) (known : List Known) (got : Got) →
        Running start env known got (all_done target_part []) →
        Place P g asked vars arrs fin env (lines_of None a (old_part ++ (value_part ++ new_steps place cs))) →
        length env.variables ≡ length start.variables + length target_part →
        Ends env (old_part ++ (value_part ++ new_steps place cs)) →
        Emits start behind_block (Helps start steps) (set_worth a) known got
        (old_part ++ (value_part ++ new_steps place cs))
        (all_lines (parts_meant env forms.BlockNode false sites
        (lines_of None a (old_part ++ (value_part ++ new_steps place cs)))).pieces)
    old_runs env sites known got r q e x =
        let c = counted in
        leaves_run P g asked vars arrs fin start behind_block scope (Helps start steps) (set_worth a) limit facts.plain
        at.seen at.below helped None a old_part (all_done target_part []) env sites known got
        (value_part ++ new_steps place cs) facts.old_ordered facts.old_fits r q (omega arith) x
        (λ env' sites' known' got' r' q' e' b'. value_runs env' sites' known' got' r' q' (omega arith)
        (subst (λ (z : Env). Extends z.variables behind_block.variables) b' x))

    -- all of its lines: a block leaves the variables that its lines declare
    block_ends : Ends (opened (apart start)) steps
    block_ends =
        let ls = lines_of None a steps in
        let still = λ (z : Env). Extends z.variables behind_block.variables in
        subst still (front_behind (opened (apart start)) ls)
        (subst still (block_behind start (codes "{ }") s.first s.last ls within.in_block)
        (extends_same behind_block.variables))

    setting_emits : (sites : List Position) → Emits start behind_block (Helps start steps) (set_worth a) [] nothing_got
        steps (all_lines (parts_meant (opened (apart start)) forms.BlockNode false sites
        (lines_of None a steps)).pieces)
    setting_emits sites =
        let c = counted in
        leaves_run P g asked vars arrs fin start behind_block scope (Helps start steps) (set_worth a) limit facts.plain
        at.seen at.below helped None a target_part [] (opened (apart start)) sites [] nothing_got
        (old_part ++ (value_part ++ new_steps place cs)) facts.target_ordered facts.target_fits
        (starts_inside start within.deep)
        (block_place P g asked vars arrs fin start scope role (codes "{ }") s.first s.last (lines_of None a steps) at
        within
        sound shaped variables arrays) (omega arith) block_ends
        (λ env' sites' known' got' r' q' e' b'. old_runs env' sites' known' got' r' q' e'
        (subst (λ (z : Env). Extends z.variables behind_block.variables) b' block_ends))

    aside : Aside start behind_block steps
    aside q t constant y h m help =
        let k = at.seen q (meanings.Scalar t constant y) (sym (same_behind q) ∙ m) in
        let l = has_below scope (length start.variables) y at.below k in
        let b = help.0 in absurd (omega arith)

    -- an assignment to a vector does its steps
    pub setting_does : HasDeclared P behind_block → (sites : List Position) →
        SettingDoes P start sites s o target value
    setting_does declared sites = (
      aside,
      does_other P start behind_block steps (length cs) (set_worth a)
          (λ leaves. nth (set_list (length cs) a leaves)) _ (set_listed o a) (setting_below o target value)
          (subst (λ z. DoSteps P start behind_block steps (set_worth a) z)
          (sym (block_lines_meant start sites (codes "{ }") s.first s.last (lines_of None a steps) within.in_block))
          (steps_done P start behind_block steps (set_worth a) (all_lines (parts_meant (opened (apart start))
          forms.BlockNode false sites (lines_of None a steps)).pieces) declared (setting_emits sites)).1),
    )
