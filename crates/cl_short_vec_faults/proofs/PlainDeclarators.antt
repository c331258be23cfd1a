-- A declarator that declares no vectors: it is at fault only where its plain form is, and what is visible goes on
-- side by side behind it.
use Rattle.std.proofs.Common.{◌≡◌, ℕ, ◌≤◌, List, [], ◌∷◌, length, Option, None, Some, Bool, true, false, ◌||◌, ◌&&◌}
use Rattle.std.proofs.Common.{if◌then◌else◌, refl, ap, sym, ◌∙◌, subst, arith}
use Rattle.std.proofs.lemmas.Bool.{false≢true}
use Rattle.cl_tree.specs.declared.tree.Form.TheVariants as forms
use Rattle.cl_tree.specs.Syntax.{node, Forest, none, more, last_of}
use Rattle.cl_meaning.specs.Spelling.{name_in, is_const, intrinsic_in}
use Rattle.cl_meaning.specs.declared.types.Declared.{Declared}
use Rattle.cl_meaning.specs.declared.fault.Fault.{Fault}
use Rattle.cl_meaning.specs.declared.fault.Fault.TheVariants as faults
use Rattle.cl_meaning.specs.declared.kind.Kind.{Kind}
use Rattle.cl_meaning.specs.declared.kind.Meaning.{Meaning}
use Rattle.cl_meaning.specs.declared.kind.Role.TheVariants as roles
use Rattle.cl_meaning.specs.Environment.{Env, Scope, meaning_of, is_declared, is_firm, in_last}
use Rattle.cl_meaning.specs.Kinds.{is_some, kind_step}
use Rattle.cl_meaning.specs.Declarations.{word_of, star_in, behind_star, last_kind, Declarator, declarator_in}
use Rattle.cl_meaning.specs.Declarations.{with_declarator}
use Rattle.cl_meaning.specs.Visible.{inside, later, restored, left, closed, behind, behind_parts}
use Rattle.cl_meaning.specs.Visible.{kind_of, kinds_of}
use Rattle.cl_meaning.specs.Faults.{Asked, at_fault, looked_at, misfits, declarator_misfits, is_known_name}
use Rattle.cl_check_sound.specs.Shape.{IsDeclaratorOf}
use Rattle.cl_check_sound.specs.Sound.{SoundTree, SoundParts}
use Rattle.cl_check_sound.proofs.Neutral.{closed_same}
use Rattle.cl_check_sound.proofs.Growth.{star_leaves}
use Rattle.cl_short_vec.specs.declared.kinds.Kind as vectors
use Rattle.cl_short_vec.specs.declared.kinds.Kind.TheVariants.{Other}
use Rattle.cl_short_vec.specs.Kinds.{Names, with_name}
use Rattle.cl_short_vec.specs.Marks.{marked, marked_parts}
use Rattle.cl_short_vec.specs.Scalar.{scalar, scalars}
use Rattle.cl_short_vec_faults.specs.PlainForm.{plain_of, plains_of}
use Rattle.cl_short_vec_faults.specs.Plainly.{NoPoints, meant_by, unnumbered, StandsAlike, width_in}
use Rattle.cl_short_vec_faults.specs.Law.{ExpressionsFollow}
use Rattle.cl_short_vec_faults.specs.SoundBut.{SoundBut, is_of_size}
use Rattle.cl_short_vec_faults.specs.Beside.{IsName, ScopesBeside, Beside}
use Rattle.cl_short_vec_faults.proofs.Building.{seen, NoFault}
use Rattle.cl_short_vec_faults.proofs.Refused.{AllStay}
use Rattle.cl_short_vec_faults.proofs.HolderParts.{Pairs, declarator_holds, pairs_sound, pairs_kinds, pairs_form}
use Rattle.cl_short_vec_faults.proofs.HolderParts.{pairs_plain, length_pairs, all_sound_but, scalar_declarator}
use Rattle.cl_short_vec_faults.proofs.DeclaratorPairs.{same_declarator}
use Rattle.cl_short_vec_faults.proofs.SameDeclarators.{SameDeclarator, declarator_looked, declarator_at, first_false}
use Rattle.cl_short_vec_faults.proofs.SameDeclarators.{unit_same}
use Rattle.cl_short_vec_faults.proofs.DeclaredNames.{meant_as, declarator_declares, meant_nothing, meant_same}
use Rattle.cl_short_vec_faults.proofs.DeclaredNames.{SameStore}
use Rattle.cl_short_vec_faults.proofs.DeclaredNames.{store_same}
use Rattle.cl_short_vec_faults.proofs.BesideNames.{declares_itself, declares_firmly, declares_length, but_begin}
use Rattle.cl_short_vec_faults.proofs.BesideNames.{Declares, but_plain, but_named, but_done}

-- ---- parts

-- the parts of a declarator in the plain form, and what stands for them
pub record PartsSame (asked : Asked) (plain form : Env) (P S : Forest) : Type 0 where
  pub sound : SoundParts asked form forms.DeclaratorNode None S
  pub kinds' : kinds_of form forms.DeclaratorNode true S ≡ kinds_of plain forms.DeclaratorNode true P
  pub plain' : behind_parts plain forms.DeclaratorNode true P ≡ plain
  pub form' : behind_parts form forms.DeclaratorNode true S ≡ form
  pub star : star_in S ≡ star_in P
  pub rest : Pairs asked plain form (behind_star P) (behind_star S)

module _ (asked : Asked) (plain form : Env) where
  no_star_rest : (P S : Forest) → Pairs asked plain form P S →
      (star_in S ≡ star_in P) × Pairs asked plain form (behind_star P) (behind_star S)
  no_star_rest none none x = (refl, tt)
  no_star_rest none (more s ss) x = absurd x
  no_star_rest (more p ps) none x = absurd x
  no_star_rest (more p ps) (more s ss) x =
      let a = x.0.no_star in (
        ap (λ b. if b then Some (is_const (word_of s)) else None) a.1 ∙
            sym (ap (λ b. if b then Some (is_const (word_of p)) else None) a.0),
        subst (λ b. Pairs asked plain form (if b then ps else more p ps) (behind_star (more s ss))) (sym a.0)
            (subst (λ b. Pairs asked plain form (more p ps) (if b then ss else more s ss)) (sym a.1) x),
      )

  no_star_parts : (P S : Forest) → Pairs asked plain form P S → PartsSame asked plain form P S
  no_star_parts P S x = let r = no_star_rest P S x in record {
    sound = pairs_sound asked plain form forms.DeclaratorNode declarator_holds None P S x;
    kinds' = pairs_kinds asked plain form forms.DeclaratorNode declarator_holds true true P S x;
    plain' = pairs_plain asked plain form forms.DeclaratorNode declarator_holds true P S x;
    form' = pairs_form asked plain form forms.DeclaratorNode declarator_holds true P S x;
    star = r.0;
    rest = r.1;
  }

  star_sound : (w : List ℕ) (f l : ℕ) → SoundTree asked form roles.Other (node forms.StarNode w f l none)
  unfolding misfits
  star_sound w f l = (tt, (by, tt))
    where
      by : (k : Fault) → at_fault asked (looked_at form roles.Other (node forms.StarNode w f l none)) k ≡ false
      by faults.UnknownName = refl
      by _ = refl

  star_kind : (w : List ℕ) (f l : ℕ) →
      kind_of form (node forms.StarNode w f l none) ≡ kind_of plain (node forms.StarNode w f l none)
  unfolding kind_of kind_step
  star_kind w f l = refl

  star_parts : (w : List ℕ) (f l : ℕ) (P S : Forest) → Pairs asked plain form P S →
      PartsSame asked plain form (more (node forms.StarNode w f l none) P) (more (node forms.StarNode w f l none) S)
  unfolding kinds_of behind_parts
  star_parts w f l P S x =
      let t = node forms.StarNode w f l none in
      let d = forms.DeclaratorNode in
      let a = declarator_holds.next (behind form t) true t (kind_of form t) ∙ star_leaves form w f l in
      let b = declarator_holds.next (behind plain t) true t (kind_of plain t) ∙ star_leaves plain w f l in
      record {
        sound = (
          star_sound w f l,
          subst (λ z. SoundParts asked z d (Some (last_of t)) S) (sym a)
              (pairs_sound asked plain form d declarator_holds (Some (last_of t)) P S x),
        );
        kinds' = ap (λ z. z ∷ kinds_of (later (behind form t) d true t (kind_of form t)) d false S)
            (star_kind w f l) ∙
            (ap (λ z. kind_of plain t ∷ kinds_of z d false S) a ∙
            (ap (λ z. kind_of plain t ∷ z) (pairs_kinds asked plain form d declarator_holds false false P S x) ∙
            ap (λ z. kind_of plain t ∷ kinds_of z d false P) (sym b)));
        plain' = ap (λ z. behind_parts z d false P) b ∙ pairs_plain asked plain form d declarator_holds false P S x;
        form' = ap (λ z. behind_parts z d false S) a ∙ pairs_form asked plain form d declarator_holds false P S x;
        star = refl;
        rest = x;
      }

-- behind a declarator whose parts leave what is visible
pub declarator_behind : (env : Env) (w : List ℕ) (f l : ℕ) (parts : Forest) →
    behind_parts env forms.DeclaratorNode true parts ≡ env →
    behind env (node forms.DeclaratorNode w f l parts) ≡ with_declarator env env.declared (declarator_in w f parts)
    (last_kind (kinds_of env forms.DeclaratorNode true parts))
unfolding behind left restored inside
declarator_behind env w f l parts e =
    ap (λ z. with_declarator z z.declared (declarator_in w f parts)
    (last_kind (kinds_of env forms.DeclaratorNode true parts))) (ap (closed env) e ∙ closed_same env)

-- ---- names that are declared

pub declared_beside : (n : ℕ) (ss rs : List Scope) (q : List ℕ) → ScopesBeside n ss rs → IsName q →
    is_firm (in_last rs q) ≡ true → is_firm (in_last ss q) ≡ true
declared_beside n [] [] q h i f = f
declared_beside n [] (r ∷ rs) q h i f = absurd h
declared_beside n (s ∷ ss) [] q h i f = absurd h
declared_beside n (s ∷ []) (r ∷ []) q h i f = h.0.declared q i f
declared_beside n (s ∷ []) (r ∷ (t ∷ ts)) q h i f = absurd h.1
declared_beside n (s ∷ (u ∷ us)) (r ∷ []) q h i f = absurd h.1
declared_beside n (s ∷ (u ∷ us)) (r ∷ (t ∷ ts)) q h i f = declared_beside n (u ∷ us) (t ∷ ts) q h.1 i f

pub not_true : (b : Bool) → (b ≡ true → ⊥) → b ≡ false
not_true true h = absurd (h refl)
not_true false h = refl

second_false : (a b : Bool) → (a || b) ≡ false → b ≡ false
second_false true b h = absurd (false≢true (sym h))
second_false false b h = h

-- a name that is new in the plain form is new
pub new_beside : (asked : Asked) (names : Names) (n : ℕ) (p s : Env) (q : List ℕ) → Beside asked names n p s → IsName q
    →
    (is_declared p q || is_known_name p q) ≡ false → (is_declared s q || is_known_name s q) ≡ false
new_beside asked names n p s q h i e =
    let a = not_true (is_declared s q) (λ t. false≢true (sym (first_false (is_declared p q) (is_known_name p q) e) ∙
    declared_beside n p.scopes s.scopes q h.scopes i t)) in
    let b = ap (λ z. z && is_some (intrinsic_in q)) (unit_same p s h.plainly.depth) ∙
    second_false (is_declared p q) (is_known_name p q) e in
    ap (λ z. z || is_known_name s q) a ∙ b

-- ---- on both sides

module _ (asked : Asked) (names : Names) (n : ℕ) (p s : Env) (h : Beside asked names n p s) (d : Declared)
    (x y : Declarator) (k : Option Kind) (same : SameDeclarator x y) (q : List ℕ) (i : IsName q) (ex : x.name ≡ q)
    (ey : y.name ≡ q) where
  abbrev p' : Env
  p' = with_declarator p (Some d) x k

  abbrev s' : Env
  s' = with_declarator s (Some d) y k

  open_form : 1 ≤ length s.scopes
  open_form = subst (λ z. 1 ≤ z) (sym h.plainly.depth) h.open'

  store : SameStore p s
  store = record { arrays = h.plainly.arrays; tables = h.plainly.tables }

  plain_means : meaning_of p' q ≡ Some (meant_as p d x k)
  plain_means = subst (λ z. meaning_of p' z ≡ Some (meant_as p d x k)) ex
      (declares_itself p p' x.name (meant_as p d x k) h.open' (declarator_declares p d x k))

  form_means : meaning_of s' q ≡ Some (meant_as s d y k)
  form_means = subst (λ z. meaning_of s' z ≡ Some (meant_as s d y k)) ey
      (declares_itself s s' y.name (meant_as s d y k) open_form (declarator_declares s d y k))

  pub meant_both : meant_by s' q ≡ meant_by p' q
  meant_both = ap unnumbered form_means ∙ (ap Some (meant_same p s d x y k same h.plainly.depth store) ∙
      sym (ap unnumbered plain_means))

  pub plain_meant : meaning_of p' q ≡ Some (meant_as p d x k)
  plain_meant = plain_means

  pub beside_both : (j : vectors.Kind) → width_in j ≤ 16 → StandsAlike j q p' s' →
      Beside asked (with_name names q j) n p' s'
  beside_both j w st =
      let dp = subst (λ z. Declares p p' z (meant_as p d x k)) ex (declarator_declares p d x k) in
      let ds = subst (λ z. Declares s s' z (meant_as s d y k)) ey (declarator_declares s d y k) in
      let b0 = but_begin asked names q n p s h in
      let b1 = but_plain asked names q n p s p' (meant_as p d x k) (meant_nothing p d x k) dp b0 in
      let b2 = but_named asked names q n p' s s' (meant_as s d y k) i
      (declares_firmly p p' q (meant_as p d x k) h.open' dp) ds b1 in
      let e = store_same p s d x y k same h.plainly.depth store in
      but_done asked names q n p' s' j i e.arrays e.tables w st b2

-- ---- a declarator of no vectors

-- behind declarators the type in front of them, what is around and the number of scopes are the same
pub record Walks (p to : Env) : Type 0 where
  pub declared' : to.declared ≡ p.declared
  pub depth : length to.scopes ≡ length p.scopes
  pub owner : to.owner ≡ p.owner
  pub flags : to.flags ≡ p.flags
  pub in_body : to.in_body ≡ p.in_body
  pub in_loop' : to.in_loop ≡ p.in_loop
  pub in_switch' : to.in_switch ≡ p.in_switch

pub walks_same : (p : Env) → Walks p p
walks_same p = record {
  declared' = refl;
  depth = refl;
  owner = refl;
  flags = refl;
  in_body = refl;
  in_loop' = refl;
  in_switch' = refl;
}

pub walks_then : (a b c : Env) → Walks a b → Walks b c → Walks a c
walks_then a b c x y = record {
  declared' = y.declared' ∙ x.declared';
  depth = y.depth ∙ x.depth;
  owner = y.owner ∙ x.owner;
  flags = y.flags ∙ x.flags;
  in_body = y.in_body ∙ x.in_body;
  in_loop' = y.in_loop' ∙ x.in_loop';
  in_switch' = y.in_switch' ∙ x.in_switch';
}

pub declares_walks : (p to : Env) (name : List ℕ) (m : Meaning) → 1 ≤ length p.scopes → Declares p to name m →
    Walks p to
declares_walks p to name m h e = record {
  declared' = e.declared';
  depth = declares_length p to name m h e;
  owner = e.owner;
  flags = e.flags;
  in_body = e.in_body;
  in_loop' = e.in_loop';
  in_switch' = e.in_switch';
}

-- a declarator in two environments, whose parts are looked at
module _ (asked : Asked) (names : Names) (n : ℕ) (p s : Env) (h : Beside asked names n p s) (d : Declared)
    (typed : p.declared ≡ Some d) (w : List ℕ) (f l : ℕ) (i : IsName (name_in w)) (P S : Forest)
    (same : SameDeclarator (declarator_in w f P) (declarator_in w f S))
    (ep : behind_parts p forms.DeclaratorNode true P ≡ p) (es : behind_parts s forms.DeclaratorNode true S ≡ s)
    (fit : (o : Option Declared) → declarator_misfits o (declarator_in w f P)
    (last_kind (kinds_of s forms.DeclaratorNode true S)) ≡
    declarator_misfits o (declarator_in w f P) (last_kind (kinds_of p forms.DeclaratorNode true P)))
    (leave : with_declarator s (Some d) (declarator_in w f S) (last_kind (kinds_of s forms.DeclaratorNode true S)) ≡
    with_declarator s (Some d) (declarator_in w f S) (last_kind (kinds_of p forms.DeclaratorNode true P)))
    (so : SoundTree asked p roles.Other (node forms.DeclaratorNode w f l P)) where
  no_fault : NoFault asked (seen p roles.Other forms.DeclaratorNode w f P (kinds_of p forms.DeclaratorNode true P))
  no_fault = subst (NoFault asked) (declarator_looked p w f l P ep) so.1.0

  pub is_new : (is_declared p (name_in w) || is_known_name p (name_in w)) ≡ false
  is_new = no_fault faults.DeclaredTwice

  pub sound_declarator : SoundParts asked s forms.DeclaratorNode None S →
      SoundBut asked s roles.Other (node forms.DeclaratorNode w f l S)
  unfolding inside
  sound_declarator x = (all_sound_but asked s forms.DeclaratorNode None S x, (by, tt))
    where
      at : (k : Fault) → is_of_size k ≡ false → at_fault asked (seen s roles.Other forms.DeclaratorNode w f S
          (kinds_of s forms.DeclaratorNode true S)) k ≡ false
      at = declarator_at asked p s h.plainly.owner h.plainly.declared h.plainly.depth w w f f P S
          (kinds_of p forms.DeclaratorNode true P) (kinds_of s forms.DeclaratorNode true S) same fit
          (new_beside asked names n p s (name_in w) h i is_new) no_fault

      by : (k : Fault) → is_of_size k ≡ false →
          at_fault asked (looked_at s roles.Other (node forms.DeclaratorNode w f l S)) k ≡ false
      by k e = subst (λ z. at_fault asked z k ≡ false) (sym (declarator_looked s w f l S es)) (at k e)

  abbrev k : Option Kind
  k = last_kind (kinds_of p forms.DeclaratorNode true P)

  pub plain_goes : behind p (node forms.DeclaratorNode w f l P) ≡ with_declarator p (Some d) (declarator_in w f P) k
  plain_goes = declarator_behind p w f l P ep ∙ ap (λ z. with_declarator p z (declarator_in w f P) k) typed

  pub form_goes : behind s (node forms.DeclaratorNode w f l S) ≡ with_declarator s (Some d) (declarator_in w f S) k
  form_goes =
      declarator_behind s w f l S es ∙
      (ap (λ z. with_declarator s z (declarator_in w f S) (last_kind (kinds_of s forms.DeclaratorNode true S)))
      (h.plainly.declared ∙ typed) ∙ leave)

  pub walks_declarator : Walks p (behind p (node forms.DeclaratorNode w f l P))
  walks_declarator =
      let x = declarator_in w f P in
      subst (Walks p) (sym plain_goes) (declares_walks p (with_declarator p (Some d) x k) x.name (meant_as p d x k)
      h.open' (declarator_declares p d x k))

  pub goes_declarator : (j : vectors.Kind) → width_in j ≤ 16 →
      StandsAlike j (name_in w) (with_declarator p (Some d) (declarator_in w f P) k)
      (with_declarator s (Some d) (declarator_in w f S) k) →
      Beside asked (with_name names (name_in w) j) n (behind p (node forms.DeclaratorNode w f l P))
      (behind s (node forms.DeclaratorNode w f l S))
  goes_declarator j wi st =
      subst (λ z. Beside asked (with_name names (name_in w) j) n z (behind s (node forms.DeclaratorNode w f l S)))
      (sym plain_goes) (subst (λ z. Beside asked (with_name names (name_in w) j) n (with_declarator p (Some d)
      (declarator_in w f P) k) z) (sym form_goes) (beside_both asked names n p s h d (declarator_in w f P)
      (declarator_in w f S) k same (name_in w) i refl refl j wi st))

module _ (follow : ExpressionsFollow) (asked : Asked) (names : Names) (n : ℕ) (p s : Env)
    (h : Beside asked names n p s) where
  declarator_parts : (w : List ℕ) (f l : ℕ) (ps : Forest) → IsDeclaratorOf true (node forms.DeclaratorNode w f l ps) →
      NoPoints ps → AllStay (marked_parts forms.DeclaratorNode ps names true ps) →
      SoundParts asked p forms.DeclaratorNode None (plains_of ps) →
      PartsSame asked p s (plains_of ps) (scalars (marked_parts forms.DeclaratorNode ps names true ps))
  unfolding marked marked_parts scalars plain_of plains_of scalar
  declarator_parts w f l none x np r so = no_star_parts asked p s none none tt
  declarator_parts w f l (more (node forms.StarNode w' f' l' none) ps) x np r so =
      let t = node forms.StarNode w' f' l' none in
      let so' = subst (λ z. SoundParts asked z forms.DeclaratorNode (Some l') (plains_of ps))
      (declarator_holds.next (behind p t) true t (kind_of p t) ∙ star_leaves p w' f' l') so.1 in
      star_parts asked p s w' f' l' (plains_of ps)
      (scalars (marked_parts forms.DeclaratorNode (more t ps) names false ps))
      (length_pairs follow asked names p s h.plainly (h.gives, h.alone) (more t ps) false (Some l') ps x np.1 r.1 so')
  declarator_parts w f l (more (node form w' f' l' qs) ps) x np r so =
      let all = more (node form w' f' l' qs) ps in
      no_star_parts asked p s (plains_of all) (scalars (marked_parts forms.DeclaratorNode all names true all))
      (length_pairs follow asked names p s h.plainly (h.gives, h.alone) all true None all x np r so)

  pub plain_declarator : (d : Declared) → p.declared ≡ Some d → (w : List ℕ) (f l : ℕ) (ps : Forest) →
      IsDeclaratorOf true (node forms.DeclaratorNode w f l ps) → NoPoints ps → IsName (name_in w) →
      AllStay (marked_parts forms.DeclaratorNode ps names true ps) →
      SoundTree asked p roles.Other (plain_of (node forms.DeclaratorNode w f l ps)) →
      SoundBut asked s roles.Other (scalar (marked names (node forms.DeclaratorNode w f l ps))) ×
      Beside asked (with_name names (name_in w) (Other true)) n
      (behind p (plain_of (node forms.DeclaratorNode w f l ps)))
      (behind s (scalar (marked names (node forms.DeclaratorNode w f l ps)))) ×
      Walks p (behind p (plain_of (node forms.DeclaratorNode w f l ps)))
  unfolding plain_of inside
  plain_declarator d typed w f l ps x np i r so =
      let P = plains_of ps in
      let S = scalars (marked_parts forms.DeclaratorNode ps names true ps) in
      let g = declarator_parts w f l ps x np r so.0 in
      let same = same_declarator asked p s w f P S g.star g.rest in
      let last = ap last_kind g.kinds' in
      let fit = λ (o : Option Declared). ap (λ z. declarator_misfits o (declarator_in w f P) z) last in
      let leave = ap (λ z. with_declarator s (Some d) (declarator_in w f S) z) last in
      let k = last_kind (kinds_of p forms.DeclaratorNode true P) in
      let m = meant_both asked names n p s h d (declarator_in w f P) (declarator_in w f S) k same (name_in w) i refl
      refl in
      subst (λ z. SoundBut asked s roles.Other z × Beside asked (with_name names (name_in w) (Other true)) n
      (behind p (node forms.DeclaratorNode w f l P)) (behind s z) × Walks p (behind p (node forms.DeclaratorNode w f l
      P)))
      (sym (scalar_declarator names w f l ps)) (
        sound_declarator asked names n p s h d typed w f l i P S same g.plain' g.form' fit leave so g.sound,
        goes_declarator asked names n p s h d typed w f l i P S same g.plain' g.form' fit leave so (Other true) (omega
            arith) m,
        walks_declarator asked names n p s h d typed w f l i P S same g.plain' g.form' fit leave so,
      )
