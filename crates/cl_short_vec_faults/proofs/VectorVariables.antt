-- A vector variable without an initialiser: one variable in the plain form, and here one for each component. None is at
-- fault where that one is not.
use Rattle.std.proofs.Common.{◌≡◌, ℕ, zero, suc, ◌+◌, ◌≤◌, ◌<◌, ◌^◌, List, [], ◌∷◌, length, Option, None, Some, Bool}
use Rattle.std.proofs.Common.{true}
use Rattle.std.proofs.Common.{false, ◌&&◌, ◌||◌, nat_eq, if◌then◌else◌, refl, ap, sym, ◌∙◌, subst, arith}
use Rattle.std.proofs.lemmas.Bool.{false≢true}
use Rattle.std.proofs.lemmas.Bool.Decides.{nat_tests}
use Rattle.std.proofs.lemmas.List.Splits.{slice_split-cons_no}
use Rattle.std.specs.Prelude.{codes}
use Rattle.std.specs.List.{filter, slice_split, onto_first, count_by}
use lib.Pointwise.{pointwise}
use Rattle.cl_model.specs.declared.program.Space.{Space}
use Rattle.cl_model.specs.declared.program.Space.TheVariants as spaces
use Rattle.cl_model.specs.declared.program.VarKind.TheVariants as var_kinds
use Rattle.cl_tree.specs.declared.tree.Form.TheVariants as forms
use Rattle.cl_tree.specs.Syntax.{Syntax, node, Forest, none}
use Rattle.cl_meaning.specs.OwnWords.{is_blank, has_bytes}
use Rattle.cl_meaning.specs.Spelling.{name_in, dimensions_in, is_set, intrinsic_in}
use Rattle.cl_meaning.specs.declared.types.Declared.{Declared}
use Rattle.cl_meaning.specs.declared.fault.Fault.{Fault}
use Rattle.cl_meaning.specs.declared.fault.Fault.TheVariants as faults
use Rattle.cl_meaning.specs.declared.kind.Each.TheVariants as each
use Rattle.cl_meaning.specs.declared.kind.Kind.{Kind}
use Rattle.cl_meaning.specs.declared.kind.Meaning.{Meaning}
use Rattle.cl_meaning.specs.declared.kind.Meaning.TheVariants as meanings
use Rattle.cl_meaning.specs.declared.kind.Role.TheVariants as roles
use Rattle.cl_meaning.specs.Environment.{Env, Scope, is_declared, is_firm, in_last, at_unit}
use Rattle.cl_meaning.specs.Kinds.{is_some}
use Rattle.cl_meaning.specs.Declarations.{star_in, Declarator, declarator_in, dims_of, or_none, each_of, last_one}
use Rattle.cl_meaning.specs.Declarations.{is_list, allowed, lengths_in, initial_values}
use Rattle.cl_meaning.specs.Declarations.{last_kind, kept_in, with_variable, with_scalar, with_declarator}
use Rattle.cl_meaning.specs.Visible.{Before, inside, later, behind, behind_parts, kinds_of}
use Rattle.cl_meaning.specs.Faults.{Asked, at_fault, looked_at, is_known_name, all_constant}
use Rattle.cl_check_sound.specs.Sound.{SoundTree}
use Rattle.cl_short_vec.specs.declared.types.Vector.{Vector}
use Rattle.cl_short_vec.specs.declared.kinds.Reach.TheVariants.{Variable}
use Rattle.cl_short_vec.specs.declared.kinds.Kind.TheVariants.{Vectors}
use Rattle.cl_short_vec.specs.declared.roles.Around.{Around}
use Rattle.cl_short_vec.specs.declared.roles.Around.TheVariants as around
use Rattle.cl_short_vec.specs.Types.{numbers}
use Rattle.cl_short_vec.specs.Kinds.{Names, with_name, space_or_private}
use Rattle.cl_short_vec.specs.Faults.{is_private_at}
use Rattle.cl_short_vec.specs.Nodes.{component_name}
use Rattle.cl_short_vec.specs.Unit.{component_declarators}
use Rattle.cl_short_vec_faults.specs.Plainly.{meant_by, unnumbered}
use Rattle.cl_short_vec_faults.specs.SoundBut.{SoundBut, AllSoundBut, is_of_size}
use Rattle.cl_short_vec_faults.specs.Beside.{IsName, ScopesBeside, Beside}
use Rattle.cl_short_vec_faults.proofs.Building.{seen, NoFault}
use Rattle.cl_short_vec_faults.proofs.Points.{HasNoBlank, front_blank, component_named}
use Rattle.cl_short_vec_faults.proofs.LineWords as words
use Rattle.cl_short_vec_faults.proofs.LineWords.{component_is_name}
use Rattle.cl_short_vec_faults.proofs.NamesApart.{Apart, apart_from, component_number}
use Rattle.cl_short_vec_faults.proofs.BesideNames.{Declares, BesideBut, declares_itself, declares_other}
use Rattle.cl_short_vec_faults.proofs.BesideNames.{declares_firmly}
use Rattle.cl_short_vec_faults.proofs.BesideNames.{declares_no_other, but_begin, but_plain, but_component, but_done}
use Rattle.cl_short_vec_faults.proofs.SameDeclarators.{SameDeclarator, declarator_looked, declarator_at, unit_same}
use Rattle.cl_short_vec_faults.proofs.SameDeclarators.{first_false}
use Rattle.cl_short_vec_faults.proofs.DeclaredNames.{variable_declares, kept_same}
use Rattle.cl_short_vec_faults.proofs.PlainDeclarators.{Walks, declares_walks, declarator_behind, not_true}
use Rattle.cl_short_vec_faults.proofs.UnsetDeclarators.{unset_fit, unset_inside, unset_kept}

-- ---- words

-- a name is the only piece of itself
alone_split : (n : List ℕ) → HasNoBlank n → slice_split is_blank n ≡ n ∷ []
alone_split [] h = refl
alone_split (b ∷ n) h = slice_split-cons_no is_blank b n h.0 ∙ ap (onto_first b) (alone_split n h.1)

alone_dimensions : (n : List ℕ) → words.IsName n → dimensions_in n ≡ 0
alone_dimensions n h =
    ap (λ ps. count_by (λ p. pointwise nat_eq p (codes "[")) (filter has_bytes ps)) (alone_split n h.0) ∙ by n h.1
  where
    by : (m : List ℕ) → pointwise nat_eq m (codes "[") ≡ false →
        count_by (λ p. pointwise nat_eq p (codes "[")) (filter has_bytes (m ∷ [])) ≡ 0
    by [] e = refl
    by (b ∷ m) e = rw e (refl)

-- ---- a scalar

-- of no dimensions
zero_element : (x : Declarator) → x.dimensions ≡ 0 → each_of (or_none (dims_of x)) ≡ each.Element
zero_element x e = subst (λ n. each_of (or_none (dims_of (record x { dimensions = n }))) ≡ each.Element) (sym e)
    (by x.lengths)
  where
    by : (ls : List Syntax) →
        each_of (or_none (dims_of (record x { dimensions = 0; lengths = ls }))) ≡ each.Element
    by [] = refl
    by (t ∷ ts) = ap (λ b. each_of (or_none (if b then allowed (lengths_in (t ∷ ts)) else None))) (more_no (length ts))
      where
        more_no : (n : ℕ) → nat_eq (suc n) 0 ≡ false
        more_no n = grind (arith, nat_tests)

-- it is a variable of the item's own memory
pub scalar_goes : (env : Env) (d : Declared) (x : Declarator) (k : Option Kind) → x.star ≡ None → x.dimensions ≡ 0 →
    kept_in env d ≡ spaces.Private → with_declarator env (Some d) x k ≡
    with_variable env x.name x.token (var_kinds.Scalar d.of) (meanings.Scalar d.of d.constant (length env.variables))
scalar_goes env d x k es en ek =
    ap (λ z. with_declarator env (Some d) (record x { star = z }) k) es ∙
    (ap (λ z. with_declarator env (Some d) (record x { star = None; dimensions = z }) k) en ∙
    ap (λ z. with_scalar env d (record x { star = None; dimensions = 0 }) z) ek)

pub private_kept : (a : Around) (o : Option Space) → is_private_at a o ≡ true → space_or_private o ≡ spaces.Private
private_kept around.Unit o h = absurd (false≢true h)
private_kept around.Block None h = refl
private_kept around.Block (Some spaces.Private) h = refl
private_kept around.Block (Some spaces.Global) h = absurd (false≢true h)
private_kept around.Block (Some spaces.Constant) h = absurd (false≢true h)
private_kept around.Block (Some spaces.Local) h = absurd (false≢true h)
private_kept around.Head None h = refl
private_kept around.Head (Some spaces.Private) h = refl
private_kept around.Head (Some spaces.Global) h = absurd (false≢true h)
private_kept around.Head (Some spaces.Constant) h = absurd (false≢true h)
private_kept around.Head (Some spaces.Local) h = absurd (false≢true h)

-- ---- names of components

pub component_beside : (n : ℕ) (ss rs : List Scope) (q : List ℕ) (c : ℕ) → ScopesBeside n ss rs → IsName q →
    is_firm (in_last rs (component_name q c)) ≡ true → is_firm (in_last ss q) ≡ true
component_beside n [] [] q c h i f = absurd (false≢true f)
component_beside n [] (r ∷ rs) q c h i f = absurd h
component_beside n (s ∷ ss) [] q c h i f = absurd h
component_beside n (s ∷ []) (r ∷ []) q c h i f = h.0.components q i c f
component_beside n (s ∷ []) (r ∷ (t ∷ ts)) q c h i f = absurd h.1
component_beside n (s ∷ (u ∷ us)) (r ∷ []) q c h i f = absurd h.1
component_beside n (s ∷ (u ∷ us)) (r ∷ (t ∷ ts)) q c h i f = component_beside n (u ∷ us) (t ∷ ts) q c h.1 i f

some_scope : (p s : Env) (asked : Asked) (names : Names) (x : List ℕ) (n : ℕ) → BesideBut asked names x n p s →
    1 ≤ length s.scopes
some_scope p s asked names x n h = subst (λ z. 1 ≤ z) (sym h.depth) h.open'

-- ---- one variable for each component

-- In front of it, no node of the plain form is at fault: `p` is visible there in the plain form, and `s` here.
module _ (asked : Asked) (names : Names) (n : ℕ) (p s : Env) (be : Beside asked names n p s) (d : Declared)
    (typed : p.declared ≡ Some d) (w : List ℕ) (f l : ℕ) (i : IsName (name_in w)) (P : Forest)
    (single : dimensions_in w ≡ 0) (starless : star_in P ≡ None) (unset : (declarator_in w f P).init ≡ None)
    (private : space_or_private d.space ≡ spaces.Private)
    (ep : behind_parts p forms.DeclaratorNode true P ≡ p)
    (so : SoundTree asked p roles.Other (node forms.DeclaratorNode w f l P)) (token : ℕ) where
  abbrev q : List ℕ
  q = name_in w

  abbrev x : Declarator
  x = declarator_in w f P

  abbrev kp : List (Option Kind)
  kp = kinds_of p forms.DeclaratorNode true P

  no_fault : NoFault asked (seen p roles.Other forms.DeclaratorNode w f P kp)
  no_fault = subst (NoFault asked) (declarator_looked p w f l P ep) so.1.0

  new : is_declared p q ≡ false
  new = first_false (is_declared p q) (is_known_name p q) (no_fault faults.DeclaredTwice)

  pub variable_inside : at_unit p ≡ false
  variable_inside = unset_inside asked p w f P kp d typed no_fault starless unset

  kept : kept_in p d ≡ spaces.Private
  kept = unset_kept asked p w f P kp d typed no_fault starless variable_inside ∙ private

  abbrev mp : Meaning
  mp = meanings.Scalar d.of d.constant (length p.variables)

  abbrev p' : Env
  p' = with_variable p q x.token (var_kinds.Scalar d.of) mp

  pub variable_goes : behind p (node forms.DeclaratorNode w f l P) ≡ p'
  variable_goes = declarator_behind p w f l P ep ∙
      (ap (λ z. with_declarator p z x (last_kind kp)) typed ∙ scalar_goes p d x (last_kind kp) starless single kept)

  plain_declares : Declares p p' q mp
  plain_declares = variable_declares p q x.token (var_kinds.Scalar d.of) mp

  there : is_declared p' q ≡ true
  there = declares_firmly p p' q mp be.open' plain_declares

  -- the components below that one are declared, and no other is
  record Upto (first : ℕ) (si : Env) : Type 0 where
    but : BesideBut asked names q n p' si
    fresh : (c : ℕ) → first ≤ c → c < 2 ^ 64 → is_declared si (component_name q c) ≡ false
    told : (c : ℕ) → c < first → c < 2 ^ 64 →
        meant_by si (component_name q c) ≡ Some (meanings.Scalar d.of d.constant 0)
    arrays : si.arrays ≡ s.arrays
    tables : si.tables ≡ s.tables

  none_yet : Upto 0 s
  none_yet = record {
    but = but_plain asked names q n p s p' mp (λ e r. refl) plain_declares (but_begin asked names q n p s be);
    fresh = λ c a b. not_true (is_declared s (component_name q c))
        (λ t. false≢true (sym new ∙ component_beside n p.scopes s.scopes q c be.scopes i t));
    told = λ c a b. absurd (omega arith);
    arrays = refl;
    tables = refl;
  }

  module _ (c : ℕ) (small : c < 2 ^ 64) (si : Env) (u : Upto c si) where
    abbrev cw : List ℕ
    cw = component_name q c

    abbrev y : Declarator
    y = declarator_in cw token none

    abbrev comp : Syntax
    comp = node forms.DeclaratorNode cw token token none

    comp_name : name_in cw ≡ cw
    comp_name = component_named w c

    comp_single : dimensions_in cw ≡ 0
    comp_single = alone_dimensions cw (component_is_name q c (front_blank w))

    comp_unset : y.init ≡ None
    comp_unset = by (is_set cw)
      where
        by : (b : Bool) → (if b then last_one [] else None) ≡ None
        by true = refl
        by false = refl

    depth : length si.scopes ≡ length p.scopes
    depth = u.but.depth ∙ (declares_walks p p' q mp be.open' plain_declares).depth

    same : SameDeclarator x y
    same = record {
      star = sym starless;
      dimensions = comp_single ∙ sym single;
      each' = zero_element y comp_single ∙ sym (zero_element x single);
      some = ap is_some (comp_unset ∙ sym unset);
      list = ap is_list (comp_unset ∙ sym unset);
      constants = ap (λ z. all_constant (initial_values z)) (comp_unset ∙ sym unset);
    }

    comp_new : (is_declared si (name_in cw) || is_known_name si (name_in cw)) ≡ false
    comp_new =
        ap (λ z. z || is_known_name si (name_in cw)) (ap (is_declared si) comp_name ∙ u.fresh c (omega arith) small) ∙
        ap (λ z. z && is_some (intrinsic_in (name_in cw))) (unit_same p si depth ∙ variable_inside)

    comp_parts : behind_parts si forms.DeclaratorNode true none ≡ si
    unfolding behind_parts
    comp_parts = refl

    component_sound : SoundBut asked si roles.Other comp
    unfolding inside kinds_of
    component_sound = (tt, (by, tt))
      where
        at : (k : Fault) → is_of_size k ≡ false →
            at_fault asked (seen si roles.Other forms.DeclaratorNode cw token none []) k ≡ false
        at = declarator_at asked p si u.but.owner u.but.declared' depth w cw f token P none kp [] same
            (λ o. unset_fit x starless unset o None (last_kind kp)) comp_new no_fault

        by : (k : Fault) → is_of_size k ≡ false → at_fault asked (looked_at si roles.Other comp) k ≡ false
        by k e = subst (λ z. at_fault asked z k ≡ false)
            (sym (declarator_looked si cw token token none comp_parts)) (at k e)

    abbrev mc : Meaning
    mc = meanings.Scalar d.of d.constant (length si.variables)

    abbrev next : Env
    next = with_variable si cw y.token (var_kinds.Scalar d.of) mc

    component_goes : behind si comp ≡ next
    unfolding kinds_of
    component_goes =
        declarator_behind si cw token token none comp_parts ∙
        (ap (λ z. with_declarator si z y None) (u.but.declared' ∙ typed) ∙
        (scalar_goes si d y None refl comp_single (kept_same p si d (unit_same p si depth) ∙ kept) ∙
        ap (λ z. with_variable si z y.token (var_kinds.Scalar d.of) mc) comp_name))

    comp_declares : Declares si next cw mc
    comp_declares = variable_declares si cw y.token (var_kinds.Scalar d.of) mc

    some : 1 ≤ length si.scopes
    some = some_scope p' si asked names q n u.but

    apart : (k : ℕ) → k < 2 ^ 64 → (c ≡ k → ⊥) → Apart cw (component_name q k)
    apart k b h = apart_from cw (component_name q k)
        (λ e. h (component_number q q c k i.plain i.plain small b e))

    one_more : Upto (suc c) next
    one_more = record {
      but = but_component asked names q n p' si next c mc i there comp_declares u.but;
      fresh = λ k a b. declares_no_other si next cw mc some comp_declares (component_name q k)
          (apart k b (λ e. (omega arith))) ∙ u.fresh k (omega arith) b;
      told = λ k a b. tell k a b (nat_eq c k) refl;
      arrays = u.arrays;
      tables = u.tables;
    }
      where
        tell : (k : ℕ) → k < suc c → k < 2 ^ 64 → (z : Bool) → nat_eq c k ≡ z →
            meant_by next (component_name q k) ≡ Some (meanings.Scalar d.of d.constant 0)
        tell k a b true e =
            let j : c ≡ k = grind (arith, nat_tests) in
            subst (λ z. meant_by next (component_name q z) ≡ Some (meanings.Scalar d.of d.constant 0)) j
            (ap unnumbered (declares_itself si next cw mc some comp_declares))
        tell k a b false e =
            let j : (c ≡ k → ⊥) = λ h. (let g : nat_eq c k ≡ true = grind (arith, nat_tests) in false≢true (sym e ∙ g))
            in
            let less : k < c = grind (arith, nat_tests) in
            ap unnumbered (declares_other si next cw mc some comp_declares (component_name q k) (apart k b j)) ∙
            u.told k less b

    behind_more : Upto (suc c) (behind si comp)
    behind_more = subst (Upto (suc c)) (sym component_goes) one_more

  -- the components from that one on
  all_components : (k c : ℕ) → c + k ≤ 16 → (si : Env) → Upto c si → (b : Before) (fs : Bool) →
      AllSoundBut asked si forms.DeclareNode b
      (component_declarators (record { name = q; span = record { first = token; last = token } }) (numbers c 1 k)) ×
      Upto (c + k) (behind_parts si forms.DeclareNode fs
      (component_declarators (record { name = q; span = record { first = token; last = token } }) (numbers c 1 k)))
  unfolding behind_parts later
  all_components zero c h si u b fs = (tt, let e : c ≡ c + 0 = omega arith in subst (λ z. Upto z si) e u)
  all_components (suc k) c h si u b fs =
      let small : c < 2 ^ 64 = omega arith in
      let e : suc c ≡ c + 1 = omega arith in
      let e' : (c + 1) + k ≡ c + suc k = omega arith in
      let t = comp c small si u in
      let si' = behind si t in
      let g = all_components k (c + 1) (omega arith) si' (subst (λ z. Upto z si') e (behind_more c small si u))
      (Some token) false in
      let others = component_declarators (record { name = q; span = record { first = token; last = token } })
      (numbers (c + 1) 1 k) in (
        (component_sound c small si u, g.0),
        subst (λ z. Upto z (behind_parts si' forms.DeclareNode false others)) e' g.1,
      )

  -- the components of a variable in place of the variable
  pub components_declared : (v : Vector) → v.of ≡ d.of → v.count ≤ 16 → (b : Before) (fs : Bool) →
      AllSoundBut asked s forms.DeclareNode b (component_declarators
      (record { name = q; span = record { first = token; last = token } }) (numbers 0 1 v.count)) ×
      Beside asked (with_name names q (Vectors v Variable)) n (behind p (node forms.DeclaratorNode w f l P))
      (behind_parts s forms.DeclareNode fs (component_declarators
      (record { name = q; span = record { first = token; last = token } }) (numbers 0 1 v.count))) ×
      Walks p (behind p (node forms.DeclaratorNode w f l P))
  components_declared v e few b fs =
      let all = component_declarators (record { name = q; span = record { first = token; last = token } })
      (numbers 0 1 v.count) in
      let g = all_components v.count 0 (omega arith) s none_yet b fs in
      let si = behind_parts s forms.DeclareNode fs all in
      let u = g.1 in
      let means : meant_by p' q ≡ Some (meanings.Scalar d.of d.constant 0) =
      ap unnumbered (declares_itself p p' q mp be.open' plain_declares) in
      let typed' = ap (λ z. Some (meanings.Scalar z d.constant 0)) (sym e) in (
        g.0,
        subst (λ z. Beside asked (with_name names q (Vectors v Variable)) n z si) (sym variable_goes)
            (but_done asked names q n p' si (Vectors v Variable) i (ap length u.arrays ∙ be.plainly.arrays)
            (ap length u.tables ∙ be.plainly.tables) few
            (d.constant, means ∙ typed', λ c h. u.told c (omega arith) (omega arith) ∙ typed') u.but),
        subst (Walks p) (sym variable_goes) (declares_walks p p' q mp be.open' plain_declares),
      )
