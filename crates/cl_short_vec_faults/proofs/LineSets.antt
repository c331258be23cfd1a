-- The lines of a statement that sets a vector: those of its leaves, and those that set each component.
use Rattle.std.proofs.Common.{◌≡◌, ℕ, zero, suc, ◌+◌, ◌≤◌, ◌<◌, Bool, true, false, List, [], ◌∷◌, map, length}
use Rattle.std.proofs.Common.{Option, Some, None, if◌then◌else◌, refl, ap, sym, ◌∙◌, subst, inl, inr, ◌⊎◌, arith}
use Rattle.std.proofs.lemmas.Bool.{false≢true}
use Rattle.std.specs.Prelude.{slice_index}
use Rattle.wg_num.specs.declared.types.IntType.{IntType}
use Rattle.wg_num.specs.declared.types.Bin.{Bin}
use Rattle.cl_model.specs.Lists.{Each}
use Rattle.cl_meaning.specs.declared.operators.Setting.{Setting}
use Rattle.cl_meaning.specs.declared.operators.Setting.TheVariants as settings
use Rattle.cl_meaning.specs.declared.kind.Reach.{Reach}
use Rattle.cl_meaning.specs.declared.kind.Kind.TheVariants as kinds
use Rattle.cl_meaning.specs.declared.kind.Role.TheVariants as roles
use Rattle.cl_meaning.specs.Environment.{Env}
use Rattle.cl_meaning.specs.Kinds.{is_constant_memory}
use Rattle.cl_meaning.specs.Faults.{Asked, unassignable}
use Rattle.cl_short_vec.specs.declared.kinds.Reach.TheVariants.{Variable, Element}
use Rattle.cl_short_vec.specs.declared.kinds.Kind.{Kind}
use Rattle.cl_short_vec.specs.declared.kinds.Kind.TheVariants.{Vectors, Pointer, Other}
use Rattle.cl_short_vec.specs.Kinds.{Names, is_vector}
use Rattle.cl_short_vec.specs.Marks.{Mark, tree_at, kind_at}
use Rattle.cl_short_vec.specs.Faults.{right_fits}
use Rattle.cl_short_vec.specs.Nodes.{span_of, component_name, variable_at, helping_component}
use Rattle.cl_short_vec.specs.Order.{Named, Step, Offset, Number, Copy, Load, Set, Store, type_in, count_in, named_by}
use Rattle.cl_short_vec.specs.Order.{loads, copies, under, is_element_in, target_steps, old_steps}
use Rattle.cl_short_vec.specs.Order.{stores, sets}
use Rattle.cl_short_vec.specs.Parts.{Assigned, assigned_part, part_of}
use Rattle.cl_short_vec.specs.Unit.{lines_of, helped_element}
use Rattle.cl_short_vec_faults.specs.PlainForm.{plain_of}
use Rattle.cl_short_vec_faults.specs.Parts.{HelpedBy}
use Rattle.cl_short_vec_faults.proofs.Building.{Good}
use Rattle.cl_short_vec_faults.proofs.PlainForms.{plain_made}
use Rattle.cl_short_vec_faults.proofs.Places.{AllUnder}
use Rattle.cl_short_vec_faults.proofs.PartNodes.{GoodNumber, helping_number, component_number}
use Rattle.cl_short_vec_faults.proofs.PartFits.{Wide, same_count}
use Rattle.cl_short_vec_faults.proofs.LineSeen.{Alike, tree_alike}
use Rattle.cl_short_vec_faults.proofs.LineLeaves.{LeafOf, CopyFits}
use Rattle.cl_short_vec_faults.proofs.LineSteps.{LinesSound, behind_lines, LeafFits, setting_sound, setting_behind}
use Rattle.cl_short_vec_faults.proofs.LineTargets.{VariableTarget, ElementTarget, Target}

-- ---- leaves where the same is visible

leaf_alike : (asked : Asked) (names : Names) (p s : Env) (m : Mark) → Alike p s → LeafOf asked names p m →
    LeafOf asked names s m
leaf_alike asked names p s m a l = record {
  tree = l.tree;
  marks = l.marks;
  expression = l.expression;
  points = l.points;
  role = l.role;
  refused = l.refused;
  sound = (tree_alike asked p s roles.Other (plain_of l.tree) (plain_made l.tree l.expression) a l.sound).0;
}

pub fit_alike : (asked : Asked) (names : Names) (p s : Env) → Alike p s → (t : Step) → LeafFits asked names p t →
    LeafFits asked names s t
unfolding leaf_alike
fit_alike asked names p s a (Offset m) f = record {
  leaf = leaf_alike asked names p s m a f.leaf;
  vector = f.vector;
  space = f.space;
  constant = f.constant;
  kind = f.kind;
  element = f.element;
}
fit_alike asked names p s a (Number of m) f = record {
  leaf = leaf_alike asked names p s m a f.leaf;
  apart = f.apart;
  of = f.of;
  reached = f.reached;
  number = (tree_alike asked p s roles.Other (plain_of f.leaf.tree) (plain_made f.leaf.tree f.leaf.expression) a
      f.leaf.sound).1 ∙ f.number;
}
fit_alike asked names p s a (Copy of x c) f = f
fit_alike asked names p s a (Load m c) f = f
fit_alike asked names p s a (Set x c j) f = f
fit_alike asked names p s a (Store m c j) f = f

pub each_alike : (asked : Asked) (names : Names) (p s : Env) → Alike p s → (ts : List Step) →
    Each (LeafFits asked names p) ts → Each (LeafFits asked names s) ts
each_alike asked names p s a [] h = tt
each_alike asked names p s a (t ∷ ts) h = (fit_alike asked names p s a t h.0, each_alike asked names p s a ts h.1)

-- ---- the leaves of a target

-- what holds for each number below another holds of steps for some of them
pub map_under : (P : Step → Type 0) (step : ℕ → Step) (n : ℕ) (cs : List ℕ) → AllUnder n cs →
    ((c : ℕ) → c < n → P (step c)) → Each P (map step cs)
map_under P step n [] h g = tt
map_under P step n (c ∷ cs) h g = (g c h.0, map_under P step n cs h.1 g)

module _ (asked : Asked) (names : Names) (plain : Env) (m : Mark) where
  pub element_kind : (x : ElementTarget asked names plain m) →
      kind_at (under m) ≡ Vectors x.fits.vector (Element x.fits.space x.fits.constant)
  element_kind x = ap kind_at x.fits.leaf.marks ∙ x.fits.kind

  pub variable_kind : (x : VariableTarget names m) → kind_at (under m) ≡ Vectors x.vector Variable
  variable_kind x = ap kind_at x.under' ∙ x.named

  -- whether a target is an element
  target_apart : Target asked names plain m → (b : Bool) → is_element_in (kind_at (under m)) ≡ b →
      ((b ≡ true) × ElementTarget asked names plain m) ⊎ ((b ≡ false) × VariableTarget names m)
  target_apart (inr x) b e = inl (sym e ∙ ap is_element_in (element_kind x), x)
  target_apart (inl x) b e = inr (sym e ∙ ap is_element_in (variable_kind x), x)

  pub target_fits : Target asked names plain m → Each (LeafFits asked names plain) (target_steps (under m))
  target_fits x = by (is_element_in (kind_at (under m))) (target_apart x (is_element_in (kind_at (under m))) refl)
    where
      by : (b : Bool) → ((b ≡ true) × ElementTarget asked names plain m) ⊎ ((b ≡ false) × VariableTarget names m) →
          Each (LeafFits asked names plain) (if b then Offset (under m) ∷ [] else [])
      by true (inl y) = (y.1.fits, tt)
      by true (inr y) = absurd (false≢true (sym y.0))
      by false y = tt

  copy_fits : (x : VariableTarget names m) (c : ℕ) → c < count_in (kind_at (under m)) →
      CopyFits names (named_by (tree_at (under m))) c
  copy_fits x c l =
      let within : c < x.vector.count = subst (λ z. c < count_in z) (variable_kind x) l in
      subst (λ z. CopyFits names (named_by (tree_at z)) c) (sym x.under') (record {
        vector = x.vector;
        named = x.named;
        within = within;
        source = x.source;
        word = x.word;
        name = refl;
      })

  pub old_fits : Target asked names plain m → count_in (kind_at (under m)) ≤ 16 → (o : Option Bin) (cs : List ℕ) →
      AllUnder (count_in (kind_at (under m))) cs → Each (LeafFits asked names plain) (old_steps o (under m) cs)
  old_fits x small None cs h = tt
  old_fits x small (Some op) cs h =
      by (is_element_in (kind_at (under m))) (target_apart x (is_element_in (kind_at (under m))) refl)
    where
      by : (b : Bool) → ((b ≡ true) × ElementTarget asked names plain m) ⊎ ((b ≡ false) × VariableTarget names m) →
          Each (LeafFits asked names plain) (if b then loads (under m) cs else
          copies (type_in (kind_at (under m))) (named_by (tree_at (under m))) cs)
      by true (inl y) = map_under (LeafFits asked names plain) (Load (under m)) (count_in (kind_at (under m))) cs h
          (λ c l. record {
            vector = y.1.fits.vector;
            space = y.1.fits.space;
            constant = y.1.fits.constant;
            kind = element_kind y.1;
            small = omega (arith, l, small);
          })
      by true (inr y) = absurd (false≢true (sym y.0))
      by false (inl y) = absurd (false≢true y.0)
      by false (inr y) = map_under (LeafFits asked names plain)
          (Copy (type_in (kind_at (under m))) (named_by (tree_at (under m)))) (count_in (kind_at (under m))) cs h
          (λ c l. copy_fits y.1 c l)

-- ---- what is set

-- the step of the component at that place
at_place : (P : Step → Type 0) (step : ℕ → Step) (cs : List ℕ) (j : ℕ) → Each P (map step cs) → j < length cs →
    P (step (slice_index cs j))
at_place P step [] j h l = absurd (omega arith)
at_place P step (c ∷ cs) zero h l = h.0
at_place P step (c ∷ cs) (suc j) h l = at_place P step cs j h.1 (omega arith)

-- a right side that is a vector is as wide as the target
pub right_wide : (o : Option Setting) (j k : Kind) → right_fits o j k ≡ true → is_vector j ≡ true → Wide (count_in j) k
right_wide o (Pointer s c v) k h e = absurd (false≢true e)
right_wide o (Other b) k h e = absurd (false≢true e)
right_wide o (Vectors v r) (Pointer s c u) h e = tt
right_wide o (Vectors v r) (Other b) h e = tt
right_wide (Some (settings.With op)) (Vectors v r) (Vectors u s) h e = same_count v u h
right_wide None (Vectors v r) (Vectors u s) h e = same_count v u h
right_wide (Some s') (Vectors v r) (Vectors u s) h e = same_count v u h

module _ (asked : Asked) (env : Env) (m : Mark) (value : Mark) where
  -- an old component of the target
  old_number : (o : Bin) (cs : List ℕ) (j : ℕ) → Each (HelpedBy env) (old_steps (Some o) (under m) cs) →
      j < length cs → GoodNumber asked env (helping_component (span_of (tree_at (under m))) (slice_index cs j))
  old_number o cs j h l = by (is_element_in (kind_at (under m))) h
    where
      by : (b : Bool) → Each (HelpedBy env) (if b then loads (under m) cs else
          copies (type_in (kind_at (under m))) (named_by (tree_at (under m))) cs) →
          GoodNumber asked env (helping_component (span_of (tree_at (under m))) (slice_index cs j))
      by true g = helping_number asked env (span_of (tree_at (under m))) (slice_index cs j)
          (at_place (HelpedBy env) (Load (under m)) cs j g l)
      by false g = helping_number asked env (span_of (tree_at (under m))) (slice_index cs j)
          (at_place (HelpedBy env) (Copy (type_in (kind_at (under m))) (named_by (tree_at (under m)))) cs j g l)

  pub assigned_number : (o : Option Bin) (of : IntType) (cs : List ℕ) (j : ℕ) →
      Each (HelpedBy env) (old_steps o (under m) cs) → j < length cs → GoodNumber asked env (part_of value j) →
      GoodNumber asked env (assigned_part (record {
        operator = o;
        of = of;
        target = span_of (tree_at (under m));
        components = cs;
        value = value;
      }) j)
  assigned_number None of cs j h l g = g
  assigned_number (Some op) of cs j h l g =
      component_number asked env op of (span_of (tree_at (under m)))
      (helping_component (span_of (tree_at (under m))) (slice_index cs j)) (part_of value j)
      (old_number op cs j h l) g

-- ---- the lines that set

module _ (asked : Asked) (env : Env) (a : Assigned) (of : IntType) (p : Reach)
    (free : unassignable (kinds.Number of p) ≡ false) (unwritten : is_constant_memory (kinds.Number of p) ≡ false) where
  pub sets_sound : (x : Named) (cs : List ℕ) (j : ℕ) → Each (λ c. Good asked env roles.Other
      (variable_at (component_name x.name c) x.span) (kinds.Number of p)) cs →
      ((i : ℕ) → j ≤ i → i < j + length cs → GoodNumber asked env (assigned_part a i)) →
      LinesSound asked env (lines_of None a (sets x cs j)) × (behind_lines env (lines_of None a (sets x cs j)) ≡ env)
  sets_sound x [] j h g = (tt, refl)
  sets_sound x (c ∷ cs) j h g =
      let v = g j (omega arith) (omega arith) in
      let t = variable_at (component_name x.name c) x.span in
      let b = setting_behind asked env x.span t (assigned_part a j) of p h.0 v free unwritten in
      let r = sets_sound x cs (suc j) h.1 (λ i d e. g i (omega (arith, d)) (omega (arith, e))) in (
        (
          setting_sound asked env x.span t (assigned_part a j) of p h.0 v free unwritten,
          subst (λ z. LinesSound asked z (lines_of None a (sets x cs (suc j)))) (sym b) r.0,
        ),
        ap (λ z. behind_lines z (lines_of None a (sets x cs (suc j)))) b ∙ r.1,
      )

  pub stores_sound : (m : Mark) (cs : List ℕ) (j : ℕ) → Each (λ c. Good asked env roles.Other
      (helped_element (span_of (tree_at m)) c) (kinds.Number of p)) cs →
      ((i : ℕ) → j ≤ i → i < j + length cs → GoodNumber asked env (assigned_part a i)) →
      LinesSound asked env (lines_of None a (stores m cs j)) ×
      (behind_lines env (lines_of None a (stores m cs j)) ≡ env)
  stores_sound m [] j h g = (tt, refl)
  stores_sound m (c ∷ cs) j h g =
      let v = g j (omega arith) (omega arith) in
      let s = span_of (tree_at m) in
      let t = helped_element s c in
      let b = setting_behind asked env s t (assigned_part a j) of p h.0 v free unwritten in
      let r = stores_sound m cs (suc j) h.1 (λ i d e. g i (omega (arith, d)) (omega (arith, e))) in (
        (
          setting_sound asked env s t (assigned_part a j) of p h.0 v free unwritten,
          subst (λ z. LinesSound asked z (lines_of None a (stores m cs (suc j)))) (sym b) r.0,
        ),
        ap (λ z. behind_lines z (lines_of None a (stores m cs (suc j)))) b ∙ r.1,
      )
