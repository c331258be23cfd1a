-- Heads of functions: the expressions of an attribute are at fault nowhere, and ask for the same sizes.
use Rattle.std.proofs.Common.{◌≡◌, ℕ, List, [], ◌∷◌, map, Option, None, Some, Bool, true, false, ◌||◌, if◌then◌else◌}
use Rattle.std.proofs.Common.{refl, ap, sym, ◌∙◌, subst, inl, inr}
use Rattle.cl_tree.specs.declared.tree.Form.TheVariants as forms
use Rattle.cl_tree.specs.Syntax.{Syntax, node, Forest, none, more, last_of}
use Rattle.cl_meaning.specs.Spelling.{requires_size}
use Rattle.cl_meaning.specs.Constants.{constant_of}
use Rattle.cl_meaning.specs.declared.kind.Kind.{Kind}
use Rattle.cl_meaning.specs.declared.kind.Role.TheVariants as roles
use Rattle.cl_meaning.specs.Environment.{Env, Owner}
use Rattle.cl_meaning.specs.Declarations.{size_in, sizes_in, listed, is_kernel_head}
use Rattle.cl_meaning.specs.Visible.{Before, inside, later, behind, behind_parts, left, restored, closed}
use Rattle.cl_meaning.specs.Visible.{or_sizes, in_owner}
use Rattle.cl_meaning.specs.Faults.{Asked}
use Rattle.cl_check_sound.specs.Shape.{AreExpressionsOf, IsHeadOf, AreOperands}
use Rattle.cl_check_sound.specs.Sound.{SoundTree, SoundParts}
use Rattle.cl_check_sound.proofs.Neutral.{closed_same, neutral, behind_type}
use Rattle.cl_check_sound.proofs.Fronts.{head_env}
use Rattle.cl_short_vec.specs.declared.roles.Role.TheVariants.{Free}
use Rattle.cl_short_vec.specs.Kinds.{Names}
use Rattle.cl_short_vec.specs.Kinds as kinds
use Rattle.cl_short_vec.specs.Marks.{kind_by, kind_at, marked, marked_parts}
use Rattle.cl_short_vec.specs.Roles.{role_of}
use Rattle.cl_short_vec.specs.Faults.{refusals}
use Rattle.cl_short_vec.specs.Scalar.{scalar, scalars}
use Rattle.cl_short_vec.specs.Unit.{scalarised}
use Rattle.cl_short_vec_faults.specs.PlainForm.{plain_of, plains_of}
use Rattle.cl_short_vec_faults.specs.Plainly.{NoPoint, NoPoints}
use Rattle.cl_short_vec_faults.specs.Law.{ExpressionsFollow}
use Rattle.cl_short_vec_faults.specs.SoundBut.{SoundBut, AllSoundBut}
use Rattle.cl_short_vec_faults.specs.Beside.{Beside}
use Rattle.cl_short_vec_faults.proofs.PlainForms.{plain_made, plains_made}
use Rattle.cl_short_vec_faults.proofs.Refused.{AllStay, parts_stay, part_none, free_apart, free_no_vector}
use Rattle.cl_short_vec_faults.proofs.Refused.{expression_names}
use Rattle.cl_short_vec_faults.proofs.ConstantsSame.{constants_same}
use Rattle.cl_short_vec_faults.proofs.ScalarMade.{scalar_made, scalar_leaves}
use Rattle.cl_short_vec_faults.proofs.BesideMoves.{beside_marked}
use Rattle.cl_short_vec_faults.proofs.SoundNodes.{weaker}
use Rattle.cl_short_vec_faults.proofs.FrontTrees.{bare_head, whole_head, attributed}
use Rattle.cl_short_vec_faults.proofs.FrontFaults.{still_but}

-- ---- what heads leave

-- a word in front of a function, or an attribute of some expressions
abbrev pub IsHeadTree : Syntax → Type 0
IsHeadTree (node forms.HeadNode w f l none) = Unit {0}
IsHeadTree (node forms.HeadNode w f l (more (node forms.AttributeNode w' f' l' es) none)) = AreOperands es
IsHeadTree t = ⊥

operands_leave : (env : Env) (front : Bool) (es : Forest) → AreOperands es →
    behind_parts env forms.AttributeNode front es ≡ env
unfolding behind_parts later
operands_leave env front none h = refl
operands_leave env front (more p ps) (inl x, hs) =
    ap (λ z. behind_parts z forms.AttributeNode false ps) (neutral env p x) ∙ operands_leave env false ps hs
operands_leave env front (more p ps) (inr x, hs) =
    ap (λ z. behind_parts z forms.AttributeNode false ps) (behind_type env p x) ∙ operands_leave env false ps hs

attribute_leaves : (env : Env) (w : List ℕ) (f l : ℕ) (es : Forest) → AreOperands es →
    behind env (node forms.AttributeNode w f l es) ≡ env
unfolding behind left restored inside
attribute_leaves env w f l es h = ap (λ z. closed env z) (operands_leave env true es h) ∙ closed_same env

head_leaves : (env : Env) (t : Syntax) → IsHeadTree t → behind env t ≡ env
unfolding behind behind_parts left restored inside later
head_leaves env (node forms.HeadNode w f l none) h = closed_same env
head_leaves env (node forms.HeadNode w f l (more (node forms.AttributeNode w' f' l' es) none)) h =
    ap (λ z. closed env z) (attribute_leaves env w' f' l' es h) ∙ closed_same env
head_leaves env t h = absurd h

pub function_head : (env : Env) (front : Bool) (t : Syntax) (k : Option Kind) → IsHeadTree t →
    later (behind env t) forms.FunctionNode front t k ≡ head_env env t
unfolding later
function_head env front (node forms.HeadNode w f l none) k h =
    ap (λ z. head_env z (node forms.HeadNode w f l none)) (head_leaves env (node forms.HeadNode w f l none) h)
function_head env front (node forms.HeadNode w f l (more (node forms.AttributeNode w' f' l' es) none)) k h =
    ap (λ z. head_env z (attributed w f l w' f' l' es)) (head_leaves env (attributed w f l w' f' l' es) h)
function_head env front t k h = absurd h

pub prototype_head : (env : Env) (front : Bool) (t : Syntax) (k : Option Kind) → IsHeadTree t →
    later (behind env t) forms.PrototypeNode front t k ≡ head_env env t
unfolding later
prototype_head env front (node forms.HeadNode w f l none) k h =
    ap (λ z. head_env z (node forms.HeadNode w f l none)) (head_leaves env (node forms.HeadNode w f l none) h)
prototype_head env front (node forms.HeadNode w f l (more (node forms.AttributeNode w' f' l' es) none)) k h =
    ap (λ z. head_env z (attributed w f l w' f' l' es)) (head_leaves env (attributed w f l w' f' l' es) h)
prototype_head env front t k h = absurd h

-- ---- the expressions of an attribute

size_same : (x y : Syntax) → constant_of x ≡ constant_of y → size_in x ≡ size_in y
size_same x y e = rw e refl

all_made : (names : Names) (all : Forest) (front : Bool) (es : Forest) → AreExpressionsOf true es →
    AreOperands (scalars (marked_parts forms.AttributeNode all names front es))
unfolding scalars marked_parts
all_made names all front none h = tt
all_made names all front (more e es) h =
    (inl (scalar_made names e h.0), all_made (kinds.behind names e) all false es h.1)

module _ (expressions : ExpressionsFollow) where
  all_sound : (asked : Asked) (names : Names) (n : ℕ) (p s : Env) (a b : Before) (all : Forest) (front : Bool)
      (es : Forest) → AreExpressionsOf true es → NoPoints es → Beside asked names n p s →
      AllStay (marked_parts forms.AttributeNode all names front es) →
      SoundParts asked p forms.AttributeNode a (plains_of es) →
      AllSoundBut asked s forms.AttributeNode b (scalars (marked_parts forms.AttributeNode all names front es)) ×
      (map size_in (listed (scalars (marked_parts forms.AttributeNode all names front es))) ≡
      map size_in (listed (plains_of es)))
  unfolding plains_of scalars marked_parts later
  all_sound asked names n p s a b all front none h np be st so = (tt, refl)
  all_sound asked names n p s a b all front (more e es) h np be st so =
      let e' = plain_of e in
      let u = scalar (marked names e) in
      let x = expressions asked names p s Free roles.Other e h.0 np.0 be.plainly (be.gives, be.alone) st.0
      (free_apart e names h.0 st.0) so.0 in
      let so' = subst (λ z. SoundParts asked z forms.AttributeNode (Some (last_of e')) (plains_of es))
      (neutral p e' (plain_made e h.0)) so.1 in
      let rest = subst (λ z. AllStay (marked_parts forms.AttributeNode all z false es)) (expression_names names e h.0)
      st.1 in
      let y = all_sound asked names n p s (Some (last_of e')) (Some (last_of u)) all false es h.1 np.1 be rest so' in
      let c = constants_same Free names e h.0 st.0 (free_no_vector e names h.0 st.0) in
      subst (λ m. (SoundBut asked s roles.Other u × AllSoundBut asked (behind s u) forms.AttributeNode
      (Some (last_of u)) (scalars (marked_parts forms.AttributeNode all m false es))) ×
      (size_in u ∷ map size_in (listed (scalars (marked_parts forms.AttributeNode all m false es))) ≡
      size_in e' ∷ map size_in (listed (plains_of es)))) (sym (expression_names names e h.0)) (
        (
          weaker asked s roles.Other u x.0.sound,
          subst (λ z. AllSoundBut asked z forms.AttributeNode (Some (last_of u))
              (scalars (marked_parts forms.AttributeNode all names false es))) (sym (scalar_leaves names s e h.0)) y.0,
        ),
        ap (λ z. z ∷ map size_in (listed (scalars (marked_parts forms.AttributeNode all names false es))))
            (size_same u e' c) ∙ ap (λ z. size_in e' ∷ z) y.1,
      )

  -- ---- heads

  pub record HeadDone (asked : Asked) (names : Names) (n : ℕ) (p s : Env) (t u : Syntax) : Type 0 where
    pub sound : SoundBut asked s roles.Other u
    pub plain : IsHeadTree t
    pub form : IsHeadTree u
    pub beside : Beside asked names n (head_env p t) (head_env s u)

  heads_beside : (asked : Asked) (names : Names) (n : ℕ) (p s : Env) (kernel : Bool) (os rs : Option (List ℕ)) →
      os ≡ rs → Beside asked names n p s → Beside asked names n (in_owner p (record p.owner {
        kernel = p.owner.kernel || kernel;
        sizes = or_sizes p.owner.sizes os;
      })) (in_owner s (record s.owner {
        kernel = s.owner.kernel || kernel;
        sizes = or_sizes s.owner.sizes rs;
      }))
  heads_beside asked names n p s kernel os rs e h =
      let y = h.plainly in
      beside_marked asked names n p s _ _ refl refl refl refl
      (ap (λ (o : Owner). record o { kernel = o.kernel || kernel; sizes = or_sizes o.sizes rs }) y.owner ∙
      ap (λ z. record p.owner { kernel = p.owner.kernel || kernel; sizes = or_sizes p.owner.sizes z }) (sym e))
      y.declared y.flags h.unflagged y.in_body y.in_loop y.in_switch y.labels y.arrays y.tables h

  attribute_stays : (names : Names) (w w' : List ℕ) (f l f' l' : ℕ) (es : Forest) →
      refusals Free (marked names (attributed w f l w' f' l' es)) ≡ [] →
      AllStay (marked_parts forms.AttributeNode es names true es)
  unfolding marked marked_parts kind_by role_of
  attribute_stays names w w' f l f' l' es r =
      let t = node forms.AttributeNode w' f' l' es in
      let m = marked names t in
      let inner = part_none Free (attributed w f l w' f' l' es) (kind_at (marked names (attributed w f l w' f' l' es)))
      m r in
      parts_stay Free t (kind_at m) (marked_parts forms.AttributeNode es names true es) (λ x y q. refl) inner

  attribute_done : (asked : Asked) (names : Names) (n : ℕ) (p s : Env) (w w' : List ℕ) (f l f' l' : ℕ) (es : Forest) →
      AreExpressionsOf true es → NoPoints es → Beside asked names n p s →
      AllStay (marked_parts forms.AttributeNode es names true es) →
      SoundTree asked p roles.Other (attributed w f l w' f' l' (plains_of es)) →
      HeadDone asked names n p s (attributed w f l w' f' l' (plains_of es))
      (attributed w f l w' f' l' (scalars (marked_parts forms.AttributeNode es names true es)))
  unfolding inside
  attribute_done asked names n p s w w' f l f' l' es h np be st so =
      let us = scalars (marked_parts forms.AttributeNode es names true es) in
      let x = all_sound asked names n p s None None es true es h np be st so.0.0.0 in
      record {
        sound = (
          (
            (
              x.0,
              still_but asked p s forms.AttributeNode w' f' l' f' l' (plains_of es) us refl so.0.0.1.0,
            ),
            tt,
          ),
          still_but asked p s forms.HeadNode w f l f l (more (node forms.AttributeNode w' f' l' (plains_of es)) none)
              (more (node forms.AttributeNode w' f' l' us) none) refl so.1.0,
        );
        plain = plains_made es h;
        form = all_made names es true es h;
        beside = heads_beside asked names n p s (is_kernel_head (attributed w f l w' f' l' us))
            (sizes_in (node forms.AttributeNode w' f' l' (plains_of es)))
            (sizes_in (node forms.AttributeNode w' f' l' us))
            (ap (λ z. if requires_size w' then Some z else None) (sym x.1)) be;
      }

  bare_done : (asked : Asked) (names : Names) (n : ℕ) (p s : Env) (w : List ℕ) (f l : ℕ) → Beside asked names n p s →
      SoundTree asked p roles.Other (node forms.HeadNode w f l none) →
      HeadDone asked names n p s (node forms.HeadNode w f l none) (node forms.HeadNode w f l none)
  unfolding inside
  bare_done asked names n p s w f l be so = record {
    sound = (tt, still_but asked p s forms.HeadNode w f l f l none none refl so.1.0);
    plain = tt;
    form = tt;
    beside = heads_beside asked names n p s (is_kernel_head (node forms.HeadNode w f l none)) None None refl be;
  }

  pub head_done : (asked : Asked) (names : Names) (n : ℕ) (p s : Env) (t : Syntax) → IsHeadOf true t → NoPoint t →
      Beside asked names n p s → refusals Free (marked names t) ≡ [] → SoundTree asked p roles.Other (plain_of t) →
      HeadDone asked names n p s (plain_of t) (scalarised (marked names t))
  head_done asked names n p s (node forms.HeadNode w f l none) h np be r so =
      let x = bare_head names w f l in
      subst (λ z. HeadDone asked names n p s z (scalarised (marked names (node forms.HeadNode w f l none)))) (sym x.1)
      (subst (λ z. HeadDone asked names n p s (node forms.HeadNode w f l none) z) (sym x.0)
      (bare_done asked names n p s w f l be (subst (SoundTree asked p roles.Other) x.1 so)))
  head_done asked names n p s (node forms.HeadNode w f l (more (node forms.AttributeNode w' f' l' es) none)) h np be r
      so =
      let x = whole_head names w w' f l f' l' es in
      subst (λ z. HeadDone asked names n p s z (scalarised (marked names (attributed w f l w' f' l' es)))) (sym x.1)
      (subst (λ z. HeadDone asked names n p s (attributed w f l w' f' l' (plains_of es)) z) (sym x.0)
      (attribute_done asked names n p s w w' f l f' l' es h np.1.0.1 be (attribute_stays names w w' f l f' l' es r)
      (subst (SoundTree asked p roles.Other) x.1 so)))
  head_done asked names n p s t h np be r so = absurd h
