-- What is added to a pointer to vectors is counted in components, and neither a sum nor an assignment is at fault.
use Rattle.std.proofs.Common.{◌≡◌, ℕ, ◌≤◌, List, [], ◌∷◌, Option, None, Some, Bool, true, false, not, ◌&&◌, refl, ap}
use Rattle.std.proofs.Common.{sym}
use Rattle.std.proofs.Common.{◌∙◌, subst, inl}
use Rattle.std.proofs.lemmas.Bool.{false≢true}
use Rattle.std.proofs.lemmas.Option.{none-some}
use Rattle.wg_num.specs.declared.types.IntType.{IntType}
use Rattle.wg_num.specs.declared.types.IntType.TheVariants as types
use Rattle.wg_num.specs.declared.types.Bin.{Bin}
use Rattle.wg_num.specs.declared.types.Bin.TheVariants as bins
use Rattle.cl_model.specs.declared.program.Space.{Space}
use Rattle.cl_model.specs.declared.program.Root.{Root}
use Rattle.cl_tree.specs.declared.tree.Form.TheVariants as forms
use Rattle.cl_tree.specs.Syntax.{Syntax, node, Forest}
use Rattle.cl_tree.specs.Nodes.{forest2}
use Rattle.cl_meaning.specs.Spelling.{binary_in, setting_in}
use Rattle.cl_meaning.specs.declared.operators.Setting.{Setting}
use Rattle.cl_meaning.specs.declared.operators.Setting.TheVariants as settings
use Rattle.cl_meaning.specs.declared.kind.Each.TheVariants as each
use Rattle.cl_meaning.specs.declared.kind.Reach.{Reach}
use Rattle.cl_meaning.specs.declared.kind.Reach.TheVariants as reach
use Rattle.cl_meaning.specs.declared.kind.Kind.{Kind}
use Rattle.cl_meaning.specs.declared.kind.Kind.TheVariants as kinds
use Rattle.cl_meaning.specs.declared.kind.Role.{Role}
use Rattle.cl_meaning.specs.declared.kind.Role.TheVariants as roles
use Rattle.cl_meaning.specs.Environment.{Env}
use Rattle.cl_meaning.specs.Kinds.{is_some, on_one, pair_kind, binary_kind, number, value_kind, value_fits, is_target}
use Rattle.cl_meaning.specs.Kinds.{set_kind, root_changes, kind_step}
use Rattle.cl_meaning.specs.Faults.{Asked, given, given_pair, lacks_pair, setting_misfits, unassignable, misfits}
use Rattle.cl_check_sound.specs.Sound.{SoundTree}
use Rattle.cl_short_vec.specs.declared.types.Vector.{Vector}
use Rattle.cl_short_vec.specs.declared.kinds.Kind as vectors
use Rattle.cl_short_vec.specs.declared.kinds.Kind.TheVariants.{Vectors, Pointer, Other}
use Rattle.cl_short_vec.specs.Kinds.{is_vector, pointer_alone, joined_kind}
use Rattle.cl_short_vec.specs.Nodes.{scaled}
use Rattle.cl_short_vec.specs.Scalar.{moved_by, two_by}
use Rattle.cl_short_vec.proofs.Small.{SmallKind}
use Rattle.cl_short_vec_faults.proofs.Building.{seen, Good}
use Rattle.cl_short_vec_faults.proofs.Known.{setting_known}
use Rattle.cl_short_vec_faults.proofs.Nodes.{two_good, quiet_fine, Tests, tested_as, tests_as}
use Rattle.cl_short_vec_faults.proofs.Counted.{IsStepping, pointer_set, scaled_good}
use Rattle.cl_short_vec_faults.proofs.Kinded.{pointer_is, behind_pointer, before_pointer, value_as, joined_as}
use Rattle.cl_short_vec_faults.proofs.Claims.{Has, two_plain, two_step, two_kept, two_same, operator_step}
use Rattle.cl_short_vec_faults.proofs.Claims.{operator_known}
use Rattle.cl_short_vec_faults.proofs.Claims.{operator_fit, operator_claim}

-- the same by another name of the kind
pub good_as : (asked : Asked) (env : Env) (role : Role) (t : Syntax) (k j : Kind) → k ≡ j →
    Good asked env role t k → Good asked env role t j
good_as asked env role t k j e x = subst (λ z. Good asked env role t z) e x

-- ---- sums

abbrev step_by : Option Bin → Kind → Kind → Option Kind
step_by o a b = on_one o (λ op. pair_kind (binary_kind op) (Some a ∷ Some b ∷ []))

fit_by : (o : Option Bin) (a b k : Kind) → step_by o a b ≡ Some k →
    given o (λ op. lacks_pair (binary_kind op) (Some a ∷ Some b ∷ [])) ≡ false
fit_by None a b k h = refl
fit_by (Some op) a b k h = rw h refl

record Scaled (b : Kind) (step : Kind → Option Kind) (k : Kind) : Type 0 where
  of : IntType
  reach' : Reach
  number' : b ≡ kinds.Number of reach'
  scaled' : step (number types.Long) ≡ Some k

behind_scaled : (o : Option Bin) (s : Space) (e : IntType) (c : Bool) (r : Root) (q : Reach) (a b k : Kind) →
    a ≡ kinds.Pointer s e c r each.Element q → step_by o a b ≡ Some k → Scaled b (λ z. step_by o a z) k
behind_scaled None s e c r q a b k i h = absurd (none-some k h)
behind_scaled (Some op) s e c r q a b k i h =
    let x = behind_pointer op s e c r q b k (ap (λ z. binary_kind op z b) (sym i) ∙ h) in record {
      of = x.of;
      reach' = x.reach';
      number' = x.number';
      scaled' = ap (λ z. binary_kind op z (number types.Long)) i ∙ x.scaled;
    }

before_scaled : (o : Option Bin) (s : Space) (e : IntType) (c : Bool) (r : Root) (q : Reach) (a b k : Kind) →
    a ≡ kinds.Pointer s e c r each.Element q → step_by o b a ≡ Some k → Scaled b (λ z. step_by o z a) k
before_scaled None s e c r q a b k i h = absurd (none-some k h)
before_scaled (Some op) s e c r q a b k i h =
    let x = before_pointer op s e c r q b k (ap (λ z. binary_kind op b z) (sym i) ∙ h) in record {
      of = x.of;
      reach' = x.reach';
      number' = x.number';
      scaled' = ap (λ z. binary_kind op (number types.Long) z) i ∙ x.scaled;
    }

module _ (asked : Asked) (p s : Env) (place : Role) (w : List ℕ) (f l : ℕ) (ps : Forest) (ta tb ua ub : Syntax)
    (b : is_some (binary_in w) ≡ true) (ow : s.owner ≡ p.owner) where
  -- a sum of operands with these kinds, which is of that kind in the plain form
  sum_good : (va vb : Syntax) (ka kb k : Kind) → Good asked s roles.Other va ka → Good asked s roles.Other vb kb →
      step_by (binary_in w) ka kb ≡ Some k → Tests place k →
      Good asked s place (node forms.SumNode w f l (forest2 va vb)) k
  sum_good va vb ka kb k x y h t =
      let ks = Some ka ∷ Some kb ∷ [] in
      let st = operator_step forms.SumNode refl s w (forest2 va vb) ks ∙ h in
      two_good asked s place forms.SumNode w f l k refl refl va vb ka kb x y
      (quiet_fine asked (seen s place forms.SumNode w f (forest2 va vb) ks) refl
      (operator_fit forms.SumNode refl s place w f (forest2 va vb) ks ∙ fit_by (binary_in w) ka kb k h)
      (tested_as place (kind_step s forms.SumNode w (forest2 va vb) ks) k st t)) st

  sum_as : (ja jb : vectors.Kind) (v : Syntax) (x : Has asked p s roles.Other ja ta ua)
      (y : Has asked p s roles.Other jb tb ub) → SoundTree asked p place (node forms.SumNode w f l (forest2 ta tb)) →
      is_vector ja ≡ false → is_vector jb ≡ false →
      ((k : Kind) → step_by (binary_in w) x.kind y.kind ≡ Some k → Tests place k → Good asked s place v k) →
      Has asked p s place (joined_kind (binary_in w) ja jb) (node forms.SumNode w f l (forest2 ta tb)) v
  sum_as ja jb v x y so u n g =
      let ks = Some x.kind ∷ Some y.kind ∷ [] in
      let k = operator_known asked p s place forms.SumNode refl w f l ja jb ta tb ua ub x y so b in
      let st = operator_step forms.SumNode refl p w (forest2 ta tb) ks ∙ k.1 in
      let fine = two_plain asked p s place forms.SumNode w f l refl refl ja jb ta tb ua ub x y so in
      record {
        made = (refl, (inl x.made, (inl y.made, tt)));
        kind = k.0;
        plain = two_step asked p s place forms.SumNode w f l refl refl ja jb ta tb ua ub x y so ∙ st;
        as' = joined_as (binary_in w) ja jb x.kind y.kind k.0 u n x.as' y.as' k.1;
        good = g k.0 k.1 (tests_as place (kind_step p forms.SumNode w (forest2 ta tb) ks) k.0 st fine.tested);
      }

  pub sum_claim : (ja jb : vectors.Kind) (x : Has asked p s roles.Other ja ta ua)
      (y : Has asked p s roles.Other jb tb ub) → SoundTree asked p place (node forms.SumNode w f l (forest2 ta tb)) →
      is_vector ja ≡ false → is_vector jb ≡ false → SmallKind ja → SmallKind jb →
      Has asked p s place (joined_kind (binary_in w) ja jb) (node forms.SumNode w f l (forest2 ta tb))
      (two_by forms.SumNode ja jb (node forms.SumNode w f l ps) ua ub)
  sum_claim (Pointer sp c v) (Other b) x y so u n ma mb =
      sum_as (Pointer sp c v) (Other b) (node forms.SumNode w f l (forest2 ua (scaled v ub))) x y so u n (λ k h t.
      let i = pointer_is sp c v x.kind x.as' in
      let z = behind_scaled (binary_in w) sp v.of c i.root i.reach' x.kind y.kind k i.pointer h in
      sum_good ua (scaled v ub) x.kind (number types.Long) k x.good (scaled_good asked s v ub z.of z.reach' ma
      (good_as asked s roles.Other ub y.kind (kinds.Number z.of z.reach') z.number' y.good)) z.scaled' t)
  sum_claim (Other b) (Pointer sp c v) x y so u n ma mb =
      sum_as (Other b) (Pointer sp c v) (node forms.SumNode w f l (forest2 (scaled v ua) ub)) x y so u n (λ k h t.
      let i = pointer_is sp c v y.kind y.as' in
      let z = before_scaled (binary_in w) sp v.of c i.root i.reach' y.kind x.kind k i.pointer h in
      sum_good (scaled v ua) ub (number types.Long) y.kind k (scaled_good asked s v ua z.of z.reach' mb
      (good_as asked s roles.Other ua x.kind (kinds.Number z.of z.reach') z.number' x.good)) y.good z.scaled' t)
  sum_claim (Pointer sp c v) (Pointer sp' c' v') x y so u n ma mb = operator_claim asked p s place forms.SumNode refl
      w f l
      (Pointer sp c v) (Pointer sp' c' v') ta tb ua ub x y so b ow u n
  sum_claim (Other z) (Other d) x y so u n ma mb =
      operator_claim asked p s place forms.SumNode refl w f l (Other z) (Other d) ta tb ua ub x y so b ow u n
  sum_claim (Vectors v r) jb x y so u n ma mb = absurd (false≢true (sym u))
  sum_claim ja (Vectors v r) x y so u n ma mb = absurd (false≢true (sym n))

-- ---- assignments

-- what is added to a pointer variable is a number
record Added (op : Bin) (k : Kind) : Type 0 where
  of : IntType
  reach' : Reach
  number' : k ≡ kinds.Number of reach'
  steps : IsStepping op

added : (op : Bin) (s : Space) (e : IntType) (c : Bool) (r : Root) (k : Kind) →
    not (value_fits (settings.With op) (kinds.Pointer s e c r each.Element (reach.Variable false)) k) ≡ false →
    Added op k
added bins.Add s e c r (kinds.Number t p) h = record { of = t; reach' = p; number' = refl; steps = tt }
added bins.Sub s e c r (kinds.Number t p) h = record { of = t; reach' = p; number' = refl; steps = tt }
added op s e c r k h = absurd (false≢true (sym h))

module _ (asked : Asked) (p s : Env) (place : Role) (w : List ℕ) (f l : ℕ) (ps : Forest) (ta tb ua ub : Syntax)
    (b : is_some (setting_in w) ≡ true) (ow : s.owner ≡ p.owner) where
  set_step : (ja jb : vectors.Kind) (x : Has asked p s roles.Other ja ta ua) (y : Has asked p s roles.Other jb tb ub) →
      SoundTree asked p place (node forms.AssignNode w f l (forest2 ta tb)) →
      kind_step p forms.AssignNode w (forest2 ta tb) (Some x.kind ∷ Some y.kind ∷ []) ≡ Some (value_kind x.kind)
  unfolding kind_step misfits
  set_step ja jb x y so =
      let n = two_plain asked p s place forms.AssignNode w f l refl refl ja jb ta tb ua ub x y so in
      setting_known (setting_in w) x.kind y.kind b n.fit n.assignable n.written n.rooted

  -- of the same operands
  set_same : (ja jb : vectors.Kind) (x : Has asked p s roles.Other ja ta ua) (y : Has asked p s roles.Other jb tb ub) →
      SoundTree asked p place (node forms.AssignNode w f l (forest2 ta tb)) →
      Has asked p s place (pointer_alone ja) (node forms.AssignNode w f l (forest2 ta tb))
      (node forms.AssignNode w f l (forest2 ua ub))
  set_same ja jb x y so = two_same asked p s place forms.AssignNode w f l refl refl ja jb ta tb ua ub x y so
      (pointer_alone ja) (value_kind x.kind) ow tt tt tt (set_step ja jb x y so) (value_as ja x.kind x.as')

  set_kept : (ja jb : vectors.Kind) (x : Has asked p s roles.Other ja ta ua) (y : Has asked p s roles.Other jb tb ub) →
      SoundTree asked p place (node forms.AssignNode w f l (forest2 ta tb)) →
      Good asked s place (node forms.AssignNode w f l (forest2 ua ub)) (value_kind x.kind)
  set_kept ja jb x y so = two_kept asked p s place forms.AssignNode w f l refl refl ja jb ta tb ua ub x y so
      (value_kind x.kind) ow tt tt tt (set_step ja jb x y so)

  -- a pointer moved by so many components
  moved_good : (v : Vector) (sp : Space) (e : IntType) (c : Bool) (r : Root) (op : Bin) → IsStepping op →
      setting_in w ≡ Some (settings.With op) → (i : Syntax) →
      Good asked s roles.Other ua (kinds.Pointer sp e c r each.Element (reach.Variable false)) →
      Good asked s roles.Other i (number types.Long) → Tests place (kinds.Pointer sp e c r each.Element reach.Value) →
      Good asked s place (node forms.AssignNode w f l (forest2 ua i)) (kinds.Pointer sp e c r each.Element reach.Value)
  unfolding kind_step misfits
  moved_good v sp e c r bins.Add o q i x y t =
      let ks = Some (kinds.Pointer sp e c r each.Element (reach.Variable false)) ∷ Some (number types.Long) ∷ [] in
      let st : kind_step s forms.AssignNode w (forest2 ua i) ks ≡ Some (kinds.Pointer sp e c r each.Element
      reach.Value) =
      ap (λ z. on_one z (λ y. pair_kind (set_kind y) ks)) q in
      two_good asked s place forms.AssignNode w f l (kinds.Pointer sp e c r each.Element reach.Value) refl refl ua i
      (kinds.Pointer sp e c r each.Element (reach.Variable false)) (number types.Long) x y (record {
        known = refl;
        fit = ap (λ z. given z (setting_misfits ks)) q;
        tested = tested_as place (kind_step s forms.AssignNode w (forest2 ua i) ks)
            (kinds.Pointer sp e c r each.Element reach.Value) st t;
        counted = refl;
        passed = refl;
        assignable = refl;
        written = refl;
        ends = refl;
        rooted = ap (λ z. given z (λ y. given_pair ks (λ a d. is_target a && root_changes y a d))) q;
        flagged = refl;
      }) st
  moved_good v sp e c r bins.Sub o q i x y t =
      let ks = Some (kinds.Pointer sp e c r each.Element (reach.Variable false)) ∷ Some (number types.Long) ∷ [] in
      let st : kind_step s forms.AssignNode w (forest2 ua i) ks ≡ Some (kinds.Pointer sp e c r each.Element
      reach.Value) =
      ap (λ z. on_one z (λ y. pair_kind (set_kind y) ks)) q in
      two_good asked s place forms.AssignNode w f l (kinds.Pointer sp e c r each.Element reach.Value) refl refl ua i
      (kinds.Pointer sp e c r each.Element (reach.Variable false)) (number types.Long) x y (record {
        known = refl;
        fit = ap (λ z. given z (setting_misfits ks)) q;
        tested = tested_as place (kind_step s forms.AssignNode w (forest2 ua i) ks)
            (kinds.Pointer sp e c r each.Element reach.Value) st t;
        counted = refl;
        passed = refl;
        assignable = refl;
        written = refl;
        ends = refl;
        rooted = ap (λ z. given z (λ y. given_pair ks (λ a d. is_target a && root_changes y a d))) q;
        flagged = refl;
      }) st
  moved_good v sp e c r op o q i x y t = absurd o

  -- what stands behind an assignment to a pointer to vectors
  pointer_good : (v : Vector) (sp : Space) (c known : Bool) (x : Has asked p s roles.Other (Pointer sp c v) ta ua)
      (y : Has asked p s roles.Other (Other known) tb ub) →
      SoundTree asked p place (node forms.AssignNode w f l (forest2 ta tb)) → v.count ≤ 16 → (o : Option Setting) →
      setting_in w ≡ o →
      Good asked s place (node forms.AssignNode w f l (forest2 ua (moved_by o v ub))) (value_kind x.kind)
  unfolding kind_step misfits
  pointer_good v sp c known x y so small (Some (settings.With op)) q =
      let n = two_plain asked p s place forms.AssignNode w f l refl refl (Pointer sp c v) (Other known) ta tb ua ub x y
      so in
      let i = pointer_is sp c v x.kind x.as' in
      let set : i.reach' ≡ reach.Variable false = pointer_set sp v.of c i.root each.Element i.reach'
      (subst (λ z. unassignable z ≡ false) i.pointer n.assignable) in
      let e : x.kind ≡ kinds.Pointer sp v.of c i.root each.Element (reach.Variable false) =
      i.pointer ∙ ap (λ z. kinds.Pointer sp v.of c i.root each.Element z) set in
      let m : not (value_fits (settings.With op) (kinds.Pointer sp v.of c i.root each.Element (reach.Variable false))
      y.kind) ≡ false =
      ap (λ z. is_target z && not (value_fits (settings.With op) z y.kind)) (sym e) ∙
      (ap (λ z. given z (setting_misfits (Some x.kind ∷ Some y.kind ∷ []))) (sym q) ∙ n.fit) in
      let a = added op sp v.of c i.root y.kind m in
      let k : value_kind x.kind ≡ kinds.Pointer sp v.of c i.root each.Element reach.Value = ap value_kind e in
      let t = subst (λ z. Tests place z) k (tests_as place (kind_step p forms.AssignNode w (forest2 ta tb)
      (Some x.kind ∷ Some y.kind ∷ [])) (value_kind x.kind)
      (set_step (Pointer sp c v) (Other known) x y so) n.tested) in
      good_as asked s place (node forms.AssignNode w f l (forest2 ua (scaled v ub)))
      (kinds.Pointer sp v.of c i.root each.Element reach.Value) (value_kind x.kind) (sym k)
      (moved_good v sp v.of c i.root op a.steps q (scaled v ub) (good_as asked s roles.Other ua x.kind
      (kinds.Pointer sp v.of c i.root each.Element (reach.Variable false)) e x.good)
      (scaled_good asked s v ub a.of a.reach' small (good_as asked s roles.Other ub y.kind
      (kinds.Number a.of a.reach') a.number' y.good)) t)
  pointer_good v sp c known x y so small (Some settings.Plain) q = set_kept (Pointer sp c v) (Other known) x y so
  pointer_good v sp c known x y so small None q = set_kept (Pointer sp c v) (Other known) x y so

  pub set_claim : (ja jb : vectors.Kind) (x : Has asked p s roles.Other ja ta ua)
      (y : Has asked p s roles.Other jb tb ub) → SoundTree asked p place (node forms.AssignNode w f l (forest2 ta tb)) →
      SmallKind ja →
      Has asked p s place (pointer_alone ja) (node forms.AssignNode w f l (forest2 ta tb))
      (two_by forms.AssignNode ja jb (node forms.AssignNode w f l ps) ua ub)
  set_claim (Pointer sp c v) (Other b) x y so m = record {
    made = (refl, (inl x.made, (inl y.made, tt)));
    kind = value_kind x.kind;
    plain = two_step asked p s place forms.AssignNode w f l refl refl (Pointer sp c v) (Other b) ta tb ua ub x y so ∙
        set_step (Pointer sp c v) (Other b) x y so;
    as' = value_as (Pointer sp c v) x.kind x.as';
    good = pointer_good v sp c b x y so m (setting_in w) refl;
  }
  set_claim (Pointer sp c v) (Pointer sp' c' v') x y so m = set_same (Pointer sp c v) (Pointer sp' c' v') x y so
  set_claim (Pointer sp c v) (Vectors v' r) x y so m = set_same (Pointer sp c v) (Vectors v' r) x y so
  set_claim (Other b) jb x y so m = set_same (Other b) jb x y so
  set_claim (Vectors v r) jb x y so m = set_same (Vectors v r) jb x y so
