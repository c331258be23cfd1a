-- An expression at which the same names stand for the same is at fault there too only where it is here.
use Rattle.std.proofs.Common.{◌≡◌, ℕ, true, List, [], ◌∷◌, ◌++◌, Option, Some, None, slice_get}
use Rattle.std.proofs.Common.{if◌then◌else◌, ◌&&◌, refl, ap, sym, ◌∙◌, subst, inl, inr}
use Rattle.std.proofs.lemmas.Bool.{false≢true}
use Rattle.wg_num.specs.declared.types.IntType.TheVariants as types
use Rattle.cl_tree.specs.declared.tree.Form.{Form}
use Rattle.cl_tree.specs.declared.tree.Form.TheVariants as forms
use Rattle.cl_tree.specs.Syntax.{Syntax, node, Forest, none, more}
use Rattle.cl_meaning.specs.Spelling.{name_in, flag_in}
use Rattle.cl_meaning.specs.declared.types.Declared.{Declared}
use Rattle.cl_meaning.specs.declared.fault.Fault.TheVariants as faults
use Rattle.cl_meaning.specs.declared.kind.Meaning.{Meaning}
use Rattle.cl_meaning.specs.declared.kind.Meaning.TheVariants as meanings
use Rattle.cl_meaning.specs.declared.kind.Role.{Role}
use Rattle.cl_meaning.specs.declared.kind.Role.TheVariants as roles
use Rattle.cl_meaning.specs.Environment.{Env, Scope, Signature, meaning_of, meaning_in, found_in, empty_scope, or_else}
use Rattle.cl_meaning.specs.Kinds.{is_some, on_one, kind_of_meaning, name_kind, number, defined_at}
use Rattle.cl_meaning.specs.Kinds.{callee_by, callee_of, kind_step}
use Rattle.cl_meaning.specs.Visible.{inside, opened, apart, is_fence_callee, kind_of}
use Rattle.cl_meaning.specs.Faults.{Asked}
use Rattle.cl_check_sound.specs.Shape.{is_expression, IsType, OfExpressions, AreOperands}
use Rattle.cl_check_sound.specs.Sound.{ListedAt, SoundTree}
use Rattle.cl_check_sound.proofs.Plain.{SoundHere, kinds_here}
use Rattle.cl_short_vec.specs.declared.kinds.Reach.TheVariants.{Value, Variable, Element}
use Rattle.cl_short_vec.specs.declared.kinds.Kind as vectors
use Rattle.cl_short_vec.specs.declared.kinds.Kind.TheVariants.{Vectors, Pointer, Other}
use Rattle.cl_short_vec.specs.Kinds.{Names}
use Rattle.cl_short_vec.specs.Nodes.{component_name}
use Rattle.cl_short_vec_faults.specs.Plainly.{unnumbered, PointsAs, StandsAlike, Plainly}
use Rattle.cl_short_vec_faults.specs.Law.{AllGive, Called}
use Rattle.cl_short_vec_faults.specs.Parts.{KnownAlone}
use Rattle.cl_short_vec_faults.proofs.Building.{seen, NoFault, taken, built, fine, no_fault, kind_here}
use Rattle.cl_short_vec_faults.proofs.Unchanged.{NameSame, FrontSame, FlagsSame, fine_same, step_same}
use Rattle.cl_short_vec_faults.proofs.Made.{type_good, spaced_good}

-- the same names stand for the same
pub record Alike (p s : Env) : Type 0 where
  pub functions : s.functions ≡ p.functions
  pub owner : s.owner ≡ p.owner
  pub flags : s.flags ≡ p.flags
  pub meanings : (q : List ℕ) → meaning_of s q ≡ meaning_of p q

pub callee_there : (p s : Env) (q : List ℕ) (o : Option Meaning) → s.functions ≡ p.functions →
    callee_by s q o ≡ callee_by p q o
callee_there p s q (Some (meanings.Function n)) f = ap (λ (z : List Signature). defined_at n (slice_get z n)) f
callee_there p s q (Some meanings.Undefined) f = refl
callee_there p s q (Some (meanings.Scalar t c x)) f = refl
callee_there p s q (Some m) f = refl
callee_there p s q None f = refl

pub alike_callee : (p s : Env) → Alike p s → (q : List ℕ) → callee_of s q ≡ callee_of p q
alike_callee p s h q = ap (callee_by s q) (h.meanings q) ∙ callee_there p s q (meaning_of p q) h.functions

alike_name : (p s : Env) → Alike p s → (q : List ℕ) → name_kind s q ≡ name_kind p q
alike_name p s h q =
    ap (λ z. if s.flags && is_some (flag_in q) then Some (number types.Uint) else on_one z kind_of_meaning)
    (h.meanings q) ∙
    ap (λ z. if z && is_some (flag_in q) then Some (number types.Uint) else on_one (meaning_of p q) kind_of_meaning)
    h.flags

-- ---- nodes

names_same : (form : Form) (p s : Env) (w : List ℕ) → Alike p s → NameSame p s form w
names_same forms.VariableNode p s w h = alike_name p s h (name_in w)
names_same forms.CallNode p s w h = alike_callee p s h (name_in w)
names_same _ p s w h = tt

front_same : (form : Form) (parts : Forest) → FrontSame form parts parts
front_same forms.CastNode parts = (refl, refl)
front_same _ parts = tt

flags_same : (form : Form) (parts : Forest) → FlagsSame form parts parts
flags_same forms.CallNode parts = λ h. h
flags_same _ parts = tt

listed_same : (form : Form) (asked : Asked) (p s : Env) (w : List ℕ) → Alike p s → ListedAt asked p form w →
    ListedAt asked s form w
listed_same forms.CallNode asked p s w h l = λ e. l (sym (alike_callee p s h (name_in w)) ∙ e)
listed_same _ asked p s w h l = tt

inside_alike : (form : Form) → is_expression form ≡ true → (p s : Env) (w : List ℕ) → Alike p s →
    Alike (inside p form w) (inside s form w)
unfolding inside
inside_alike forms.CallNode e p s w h = record {
  functions = h.functions;
  owner = h.owner;
  flags = ap is_fence_callee (alike_callee p s h (name_in w));
  meanings = h.meanings;
}
inside_alike forms.FunctionNode e p s w h = absurd (false≢true e)
inside_alike forms.PrototypeNode e p s w h = absurd (false≢true e)
inside_alike forms.BlockNode e p s w h = absurd (false≢true e)
inside_alike forms.IfNode e p s w h = absurd (false≢true e)
inside_alike forms.WhileNode e p s w h = absurd (false≢true e)
inside_alike forms.DoNode e p s w h = absurd (false≢true e)
inside_alike forms.ForNode e p s w h = absurd (false≢true e)
inside_alike forms.SwitchNode e p s w h = absurd (false≢true e)
inside_alike forms.DefaultNode e p s w h = absurd (false≢true e)
inside_alike _ e p s w h = h

-- a type is at fault by its words alone
type_alike : (asked : Asked) (p s : Env) (t : Syntax) → IsType t → SoundTree asked p roles.Other t →
    SoundTree asked s roles.Other t × (kind_of s t ≡ kind_of p t)
unfolding kind_of kind_step
type_alike asked p s (node forms.TypeNode w f l none) h x =
    (type_good asked s w f l (x.1.0 faults.OutsideType), refl)
type_alike asked p s (node forms.TypeNode w f l (more (node forms.SpaceNode w' f' l' none) none)) h x =
    (spaced_good asked s w f l w' f' l' (x.1.0 faults.OutsideType), refl)
type_alike asked p s t h x = absurd h

mutual
  pub tree_alike : (asked : Asked) (p s : Env) (role : Role) (t : Syntax) → OfExpressions t → Alike p s →
      SoundTree asked p role t → SoundTree asked s role t × (kind_of s t ≡ kind_of p t)
  tree_alike asked p s role (node form w f l parts) h a x =
      let t = taken asked p role form w f l parts h.0 h.1 x in
      let inner = inside_alike form h.0 p s w a in
      let ps = parts_alike asked (inside p form w) (inside s form w) parts h.1 inner t.parts' in
      let ks = kinds_here (inside p form w) parts in
      let n = names_same form p s w a in (
        built asked s role form w f l parts h.0 h.1 (record {
          parts' = ps.0;
          node' = subst (λ z. NoFault asked (seen s role form w f parts z)) (sym ps.1)
              (no_fault asked (seen s role form w f parts ks) h.0 (fine_same form h.0 asked p s role w f parts parts ks
              n a.owner (front_same form parts) (flags_same form parts)
              (fine asked (seen p role form w f parts ks) t.node')));
          listed = listed_same form asked p s w a t.listed;
        }),
        kind_here s form w f l parts h.0 h.1 ∙ ap (λ z. kind_step s form w parts z) ps.1 ∙
            step_same form p s w parts parts ks n (front_same form parts) ∙ sym (kind_here p form w f l parts h.0 h.1),
      )

  parts_alike : (asked : Asked) (p s : Env) (parts : Forest) → AreOperands parts → Alike p s →
      SoundHere asked p parts → SoundHere asked s parts × (kinds_here s parts ≡ kinds_here p parts)
  parts_alike asked p s none h a x = (tt, refl)
  parts_alike asked p s (more q qs) (inl h, hs) a x =
      let o = tree_alike asked p s roles.Other q h a x.0 in
      let os = parts_alike asked p s qs hs a x.1 in
      ((o.0, os.0), ap (λ z. z ∷ kinds_here s qs) o.1 ∙ ap (λ z. kind_of p q ∷ z) os.1)
  parts_alike asked p s (more q qs) (inr h, hs) a x =
      let o = type_alike asked p s q h x.0 in
      let os = parts_alike asked p s qs hs a x.1 in
      ((o.0, os.0), ap (λ z. z ∷ kinds_here s qs) o.1 ∙ ap (λ z. kind_of p q ∷ z) os.1)

-- ---- what else is known of what is visible

pub give_alike : (asked : Asked) (p s : Env) → Alike p s → AllGive asked p → AllGive asked s
give_alike asked p s a h q c e = h q c (sym (alike_callee p s a q) ∙ e)

pub alone_alike : (p s : Env) → Alike p s → KnownAlone p → KnownAlone s
alone_alike p s a h q i c n e = h q i c n (sym (alike_callee p s a q) ∙ e)

pub called_alike : (asked : Asked) (p s : Env) → Alike p s → Called asked p → Called asked s
called_alike asked p s a h = (give_alike asked p s a h.0, alone_alike p s a h.1)

pub stands_alike : (k : vectors.Kind) (q : List ℕ) (p s p' s' : Env) → Alike p p' → Alike s s' → StandsAlike k q p s →
    StandsAlike k q p' s'
stands_alike (Other y) q p s p' s' a b h =
    ap unnumbered (b.meanings q) ∙ h ∙ sym (ap unnumbered (a.meanings q))
stands_alike (Pointer s c v) q p f p' f' a b h = (
  ap unnumbered (b.meanings q) ∙ h.0 ∙ sym (ap unnumbered (a.meanings q)),
  subst (λ z. PointsAs s c v (on_one z kind_of_meaning)) (sym (a.meanings q)) h.1,
)
stands_alike (Vectors v Variable) q p s p' s' a b h = (
  h.0,
  ap unnumbered (a.meanings q) ∙ h.1,
  λ c l. ap unnumbered (b.meanings (component_name q c)) ∙ h.2 c l,
)
stands_alike (Vectors v Value) q p s p' s' a b h = absurd h
stands_alike (Vectors v (Element r c)) q p s p' s' a b h = absurd h

-- what a name stands for where it does not change
pub stands_moved : (k : vectors.Kind) (q : List ℕ) (p s p' s' : Env) → meaning_of p' q ≡ meaning_of p q →
    meaning_of s' q ≡ meaning_of s q →
    ((c : ℕ) → meaning_of s' (component_name q c) ≡ meaning_of s (component_name q c)) → StandsAlike k q p s →
    StandsAlike k q p' s'
stands_moved (Other y) q p s p' s' a b g h = ap unnumbered b ∙ h ∙ sym (ap unnumbered a)
stands_moved (Pointer sp c v) q p s p' s' a b g h = (
  ap unnumbered b ∙ h.0 ∙ sym (ap unnumbered a),
  subst (λ z. PointsAs sp c v (on_one z kind_of_meaning)) (sym a) h.1,
)
stands_moved (Vectors v Variable) q p s p' s' a b g h =
    (h.0, ap unnumbered a ∙ h.1, λ c l. ap unnumbered (g c) ∙ h.2 c l)
stands_moved (Vectors v Value) q p s p' s' a b g h = absurd h
stands_moved (Vectors v (Element sp c)) q p s p' s' a b g h = absurd h

-- ---- at a declarator

abbrev pub typed_by : Env → Declared → Env
typed_by env d = record env { declared = Some d }

pub alike_typed : (p : Env) (d : Declared) → Alike p (typed_by p d)
alike_typed p d = record { functions = refl; owner = refl; flags = refl; meanings = λ q. refl }

pub plainly_typed : (names : Names) (p s : Env) (d : Declared) → Plainly names p s →
    Plainly names (typed_by p d) (typed_by s d)
plainly_typed names p s d h = record {
  functions = h.functions;
  owner = h.owner;
  declared = refl;
  flags = h.flags;
  outside = h.outside;
  in_body = h.in_body;
  in_loop = h.in_loop;
  in_switch = h.in_switch;
  labels = h.labels;
  depth = h.depth;
  arrays = h.arrays;
  tables = h.tables;
  names' = λ q u. stands_alike (names q) q p s (typed_by p d) (typed_by s d) (alike_typed p d) (alike_typed s d)
      (h.names' q u);
  narrow = h.narrow;
}

-- ---- in a block inside a function's block

opened_found : (ss : List Scope) (q : List ℕ) → found_in (ss ++ empty_scope ∷ []) q ≡ found_in ss q
opened_found [] q = refl
opened_found (s ∷ ss) q = ap (λ z. or_else z (s q)) (opened_found ss q)

pub alike_opened : (p : Env) → Alike p (opened (apart p))
alike_opened p = record {
  functions = refl;
  owner = refl;
  flags = refl;
  meanings = λ q. ap meaning_in (opened_found p.scopes q);
}
