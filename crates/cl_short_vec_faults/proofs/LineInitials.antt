-- The lines that declare the components of a vector variable, each with its initialiser.
use Rattle.std.proofs.Common.{◌≡◌, ℕ, suc, ◌+◌, ◌≤◌, ◌<◌, Bool, true, false, nat_eq, ◌||◌, List, [], ◌∷◌, ◌++◌, map}
use Rattle.std.proofs.Common.{length, Option, Some, None, if◌then◌else◌, refl, ap, sym, ◌∙◌, subst, inl, inr, arith}
use Rattle.std.proofs.lemmas.Bool.{false≢true}
use Rattle.std.specs.Prelude.{decimal}
use Rattle.std.specs.Str.{bytes_eq}
use lib.Pointwise.{bytes_decides}
use Rattle.wg_num.specs.declared.types.IntType.{IntType}
use Rattle.cl_model.specs.Lists.{Each, IsOneOf, AllDiffer}
use Rattle.cl_model.specs.declared.program.Space.{Space}
use Rattle.cl_model.specs.declared.program.Space.TheVariants as spaces
use Rattle.cl_tree.specs.declared.tree.Form.TheVariants as forms
use Rattle.cl_tree.specs.Syntax.{Syntax, node, Forest, none, more}
use Rattle.cl_tree.specs.Nodes.{forest1}
use Rattle.cl_meaning.specs.Spelling.{name_in, is_const}
use Rattle.cl_meaning.specs.Types.{base_in, is_outside_base, declared_as, space_in, space_among}
use Rattle.cl_meaning.specs.declared.types.Base.TheVariants.{Integer}
use Rattle.cl_meaning.specs.declared.types.Declared.{Declared}
use Rattle.cl_meaning.specs.Declarations.{word_of, parts_of}
use Rattle.cl_meaning.specs.declared.kind.Meaning.{Meaning}
use Rattle.cl_meaning.specs.declared.kind.Meaning.TheVariants as meanings
use Rattle.cl_meaning.specs.declared.kind.Role.TheVariants as roles
use Rattle.cl_meaning.specs.Environment.{Env, meaning_of, is_declared}
use Rattle.cl_meaning.specs.Kinds.{is_some, callee_of, callee_by}
use Rattle.cl_meaning.specs.Visible.{behind}
use Rattle.cl_meaning.specs.Faults.{Asked}
use Rattle.cl_check_sound.specs.Shape.{IsType}
use Rattle.cl_check_sound.proofs.Neutral.{behind_type}
use Rattle.cl_short_vec.specs.declared.types.Vector.{Vector}
use Rattle.cl_short_vec.specs.declared.kinds.Reach.TheVariants.{Value, Variable, Element}
use Rattle.cl_short_vec.specs.declared.kinds.Kind.{Kind}
use Rattle.cl_short_vec.specs.declared.kinds.Kind.TheVariants.{Vectors, Pointer, Other}
use Rattle.cl_short_vec.specs.Types.{vector_type}
use Rattle.cl_short_vec.specs.Kinds.{Names}
use Rattle.cl_short_vec.specs.Marks.{Mark, mark, marked, marked_parts}
use Rattle.cl_short_vec.specs.Nodes.{constant_word, declared_at, component_name}
use Rattle.cl_short_vec.specs.Order.{Named, Step, Offset, Number, Copy, Load, Set, Store, sets}
use Rattle.cl_short_vec.specs.Parts.{Assigned, assigned_part}
use Rattle.cl_short_vec.specs.Scalar.{component_words, scalar}
use Rattle.cl_short_vec.specs.Unit.{line_of, lines_of}
use Rattle.cl_short_vec_faults.specs.Plainly.{has_point, unnumbered, meant_by, NoPoint, NoPoints}
use Rattle.cl_short_vec_faults.specs.Parts.{StandsForPointer, HelpedBy}
use Rattle.cl_short_vec_faults.specs.Lines.{IsOwnSpace}
use Rattle.cl_short_vec_faults.proofs.LineKeeps.{step_name}
use Rattle.cl_short_vec_faults.proofs.Made.{type_good, spaced_good}
use Rattle.cl_short_vec_faults.proofs.Points.{HasNoBlank, component_point}
use Rattle.cl_short_vec_faults.proofs.PartNodes.{GoodNumber}
use Rattle.cl_short_vec_faults.proofs.PartCalls.{AllCallsKnown, CallsKnownIn}
use Rattle.cl_short_vec_faults.proofs.LineWords.{declared_with, base_word, const_word, component_is_name}
use Rattle.cl_short_vec_faults.proofs.LineAdds.{Adds, adds_itself, adds_other, keeps_declared, IsOwn}
use Rattle.cl_short_vec_faults.proofs.LineDeclares.{IsTyped, Declares, number_declaration}
use Rattle.cl_short_vec_faults.proofs.LineKeeps.{helped_kept}
use Rattle.cl_short_vec_faults.proofs.LineSeen.{typed_by, callee_there}
use Rattle.cl_short_vec_faults.proofs.LineSteps.{LinesSound, behind_lines, AllFresh, fresh_all, other_kept, DoneAt}

-- ---- names of components

tail_point : (b : ℕ) (q : List ℕ) → has_point (b ∷ q) ≡ false → has_point q ≡ false
tail_point b q h = by (nat_eq b 46) h
  where
    by : (c : Bool) → (c || has_point q) ≡ false → has_point q ≡ false
    by false e = e
    by true e = absurd (false≢true (sym e))

-- names without a point in front of the first one are one name
pub points_same : (q x a b : List ℕ) → has_point q ≡ false → has_point x ≡ false → q ++ (46 ∷ a) ≡ x ++ (46 ∷ b) → q ≡ x
points_same [] [] a b h k e = refl
points_same [] (y ∷ x) a b h k e =
    let same : 46 ≡ y = cc in absurd (false≢true (sym k ∙ ap (λ z. nat_eq z 46 || has_point x) (sym same)))
points_same (y ∷ q) [] a b h k e =
    let same : 46 ≡ y = cc in absurd (false≢true (sym h ∙ ap (λ z. nat_eq z 46 || has_point q) (sym same)))
points_same (y ∷ q) (z ∷ x) a b h k e =
    let first : y ≡ z = cc in
    let rest : q ++ (46 ∷ a) ≡ x ++ (46 ∷ b) = cc in
    ap (λ u. u ∷ q) first ∙ ap (λ u. z ∷ u) (points_same q x a b (tail_point y q h) (tail_point z x k) rest)

-- components of different variables have different names
pub components_apart : (x q : List ℕ) (c d : ℕ) → has_point x ≡ false → has_point q ≡ false → bytes_eq x q ≡ false →
    bytes_eq (component_name x c) (component_name q d) ≡ false
components_apart x q c d h k e = by (bytes_eq (component_name x c) (component_name q d)) refl
  where
    by : (b : Bool) → bytes_eq (component_name x c) (component_name q d) ≡ b → b ≡ false
    by false i = refl
    by true i = absurd (false≢true (sym e ∙ (bytes_decides x q).1 (points_same x q (decimal c) (decimal d) h k
        ((bytes_decides (component_name x c) (component_name q d)).0 i))))

-- nor have they the name of a variable of the source
pub component_apart : (x q : List ℕ) (c : ℕ) → has_point q ≡ false → bytes_eq (component_name x c) q ≡ false
component_apart x q c h = by (bytes_eq (component_name x c) q) refl
  where
    by : (b : Bool) → bytes_eq (component_name x c) q ≡ b → b ≡ false
    by false i = refl
    by true i = absurd (false≢true (sym h ∙ (sym (ap has_point ((bytes_decides (component_name x c) q).0 i)) ∙
        component_point x c)))

-- ---- the type

-- the type of the components of a vector, as the unit without vectors has it
pub record VectorType (asked : Asked) (names : Names) (t : Syntax) (v : Vector) : Type 0 where
  pub word : List ℕ
  pub first : ℕ
  pub last : ℕ
  pub parts : Forest
  pub is : scalar (marked names t) ≡ node forms.TypeNode word first last parts
  pub typed : (env : Env) → IsTyped asked env word first last parts
      (declared_with (space_among (parts_of t)) (is_const (word_of t)) v.of)

word_declared : (c : Bool) (of : IntType) (s : Option Space) →
    declared_as (base_in (constant_word c of)) (is_const (constant_word c of)) s ≡ Some (declared_with s c of)
word_declared c of s = ap (λ b. declared_as b (is_const (constant_word c of)) s) (base_word c of) ∙
    ap (λ z. declared_as (Some (Integer of false)) z s) (const_word c of)

pub vector_typed : (asked : Asked) (names : Names) (t : Syntax) (v : Vector) → IsType t → vector_type t ≡ Some v →
    VectorType asked names t v
unfolding scalar marked marked_parts
vector_typed asked names (node forms.TypeNode w f l none) v h e =
    let c = is_const w in
    let u = constant_word c v.of in record {
      word = u;
      first = f;
      last = l;
      parts = none;
      is = ap (λ z. node forms.TypeNode (component_words z w) f l none) e;
      typed = λ env. record {
        declares = word_declared c v.of None;
        same = behind_type env (node forms.TypeNode u f l none) (ap is_some (base_word c v.of));
        sound = type_good asked env u f l (ap is_outside_base (base_word c v.of));
      };
    }
vector_typed asked names (node forms.TypeNode w f l (more (node forms.SpaceNode w' f' l' none) none)) v h e =
    let c = is_const w in
    let u = constant_word c v.of in
    let ps : Forest = more (node forms.SpaceNode w' f' l' none) none in record {
      word = u;
      first = f;
      last = l;
      parts = ps;
      is = ap (λ z. node forms.TypeNode (component_words z w) f l ps) e;
      typed = λ env. record {
        declares = word_declared c v.of (space_in w');
        same = behind_type env (node forms.TypeNode u f l ps) (ap is_some (base_word c v.of));
        sound = spaced_good asked env u f l w' f' l' (ap is_outside_base (base_word c v.of));
      };
    }
vector_typed asked names t v h e = absurd h

pub own_space : (s : Option Space) → IsOwnSpace s → IsOwn s
own_space None h = tt
own_space (Some spaces.Private) h = tt
own_space (Some s) h = absurd h

-- ---- calls where functions are the same

mutual
  pub calls_moved : (env to : Env) → ((q : List ℕ) → has_point q ≡ false → callee_of to q ≡ callee_of env q) →
      (t : Syntax) → NoPoint t → AllCallsKnown env t → AllCallsKnown to t
  calls_moved env to s (node forms.CallNode w f l parts) n h = (
    λ g e. let k = h.0 g e in (s (name_in w) n.0 ∙ k.0, k.1),
    all_moved env to s parts n.1 h.1,
  )
  calls_moved env to s (node forms.VariableNode w f l parts) n h = (h.0, all_moved env to s parts n.1 h.1)
  calls_moved env to s (node form w f l parts) n h = (h.0, all_moved env to s parts n.1 h.1)

  all_moved : (env to : Env) → ((q : List ℕ) → has_point q ≡ false → callee_of to q ≡ callee_of env q) →
      (ps : Forest) → NoPoints ps → CallsKnownIn env ps → CallsKnownIn to ps
  all_moved env to s none n h = tt
  all_moved env to s (more p ps) n h = (calls_moved env to s p n.0 h.0, all_moved env to s ps n.1 h.1)

-- ---- helping variables at a declarator

pointer_typed : (k : Kind) (env : Env) (d : Declared) (q : List ℕ) → StandsForPointer k env q →
    StandsForPointer k (typed_by env d) q
pointer_typed (Vectors v (Element s c)) env d q h = h
pointer_typed (Vectors v Value) env d q h = tt
pointer_typed (Vectors v Variable) env d q h = tt
pointer_typed (Pointer s c v) env d q h = tt
pointer_typed (Other b) env d q h = tt

helped_typed : (env : Env) (d : Declared) (s : Step) → HelpedBy env s → HelpedBy (typed_by env d) s
helped_typed env d (Offset (mark t k ms)) h = pointer_typed k env d (step_name (Offset (mark t k ms))) h
helped_typed env d (Number of m) h = h
helped_typed env d (Copy of x c) h = h
helped_typed env d (Load m c) h = h
helped_typed env d (Set x c j) h = h
helped_typed env d (Store m c j) h = h

pub all_typed : (env : Env) (d : Declared) (ss : List Step) → Each (HelpedBy env) ss → Each (HelpedBy (typed_by env
    d)) ss
all_typed env d [] h = tt
all_typed env d (s ∷ ss) h = (helped_typed env d s h.0, all_typed env d ss h.1)

-- ---- behind some components

-- Behind the lines of some components of a variable these are there, and no other name stands for something else.
pub record Sets (start env : Env) (x : List ℕ) (of : IntType) (constant : Bool) (cs : List ℕ) : Type 0 where
  pub functions : env.functions ≡ start.functions
  pub tables : env.tables ≡ start.tables
  pub arrays : env.arrays ≡ start.arrays
  pub owner : env.owner ≡ start.owner
  pub before : env.declared ≡ start.declared
  pub flags : env.flags ≡ start.flags
  pub body : env.in_body ≡ start.in_body
  pub loops : env.in_loop ≡ start.in_loop
  pub switches : env.in_switch ≡ start.in_switch
  pub labels : env.labels ≡ start.labels
  pub scopes : length env.scopes ≡ length start.scopes
  pub others : (q : List ℕ) → ((c : ℕ) → bytes_eq (component_name x c) q ≡ false) →
      meaning_of env q ≡ meaning_of start q
  pub there : Each (λ c. meant_by env (component_name x c) ≡ Some (meanings.Scalar of constant 0)) cs

pub sets_start : (env : Env) (x : List ℕ) (of : IntType) (constant : Bool) → Sets env env x of constant []
sets_start env x of constant = record {
  functions = refl;
  tables = refl;
  arrays = refl;
  owner = refl;
  before = refl;
  flags = refl;
  body = refl;
  loops = refl;
  switches = refl;
  labels = refl;
  scopes = refl;
  others = λ q h. refl;
  there = tt;
}

module _ (env to : Env) (x : List ℕ) (of : IntType) (constant : Bool) (c n : ℕ)
    (a : Adds env to (component_name x c) (meanings.Scalar of constant n)) where
  still_there : (d : ℕ) → meant_by env (component_name x d) ≡ Some (meanings.Scalar of constant 0) →
      meant_by to (component_name x d) ≡ Some (meanings.Scalar of constant 0)
  still_there d h = ap unnumbered (a.meanings (component_name x d)) ∙
      by (bytes_eq (component_name x c) (component_name x d))
    where
      by : (b : Bool) → unnumbered (if b then Some (meanings.Scalar of constant n) else
          meaning_of env (component_name x d)) ≡ Some (meanings.Scalar of constant 0)
      by true = refl
      by false = h

  all_there : (cs : List ℕ) →
      Each (λ d. meant_by env (component_name x d) ≡ Some (meanings.Scalar of constant 0)) cs →
      Each (λ d. meant_by to (component_name x d) ≡ Some (meanings.Scalar of constant 0)) cs
  all_there [] h = tt
  all_there (d ∷ cs) h = (still_there d h.0, all_there cs h.1)

  pub sets_next : (start : Env) (cs : List ℕ) → Sets start env x of constant cs → Sets start to x of constant (c ∷ cs)
  sets_next start cs h = record {
    functions = a.functions ∙ h.functions;
    tables = a.tables ∙ h.tables;
    arrays = a.arrays ∙ h.arrays;
    owner = a.owner ∙ h.owner;
    before = a.before ∙ h.before;
    flags = a.flags ∙ h.flags;
    body = a.body ∙ h.body;
    loops = a.loops ∙ h.loops;
    switches = a.switches ∙ h.switches;
    labels = a.labels ∙ h.labels;
    scopes = a.scopes ∙ h.scopes;
    others = λ q g. adds_other env to (component_name x c) (meanings.Scalar of constant n) a q (g c) ∙ h.others q g;
    there = (
      ap unnumbered (adds_itself env to (component_name x c) (meanings.Scalar of constant n) a),
      all_there cs h.there,
    );
  }

-- the same functions are called
pub sets_callee : (start env : Env) (x : List ℕ) (of : IntType) (constant : Bool) (cs : List ℕ) →
    Sets start env x of constant cs → (q : List ℕ) → has_point q ≡ false → callee_of env q ≡ callee_of start q
sets_callee start env x of constant cs h q n =
    ap (callee_by env q) (h.others q (λ c. component_apart x q c n)) ∙
    callee_there start env q (meaning_of start q) h.functions

-- ---- the lines

-- numbers one behind the other, the last first
abbrev pub onto : List ℕ → List ℕ → List ℕ
onto [] done = done
onto (c ∷ cs) done = onto cs (c ∷ done)

pub each_onto : (P : ℕ → Type 0) (cs done : List ℕ) → Each P (onto cs done) → Each P cs × Each P done
each_onto P [] done h = (tt, h)
each_onto P (c ∷ cs) done h = let r = each_onto P cs (c ∷ done) h in ((r.1.0, r.0), r.1.1)

all_kept : (env to : Env) (name : List ℕ) (m : Meaning) → Adds env to name m → is_declared env name ≡ false →
    (ss : List Step) → Each (DoneAt env) ss → Each (DoneAt to) ss
all_kept env to name m a f [] h = tt
all_kept env to name m a f (s ∷ ss) h = (
  (helped_kept env to name m a s f h.0.1 h.0.0, keeps_declared env to name m a (step_name s) h.0.1),
  all_kept env to name m a f ss h.1,
)

module _ (asked : Asked) (names : Names) (type : Mark) (t : Syntax) (v : Vector) (ty : VectorType asked names t v)
    (same : type ≡ marked names t) (own : IsOwnSpace (space_among (parts_of t))) (a : Assigned) (x : Named)
    (blank : HasNoBlank x.name) (start : Env) (ss : List Step) where
  abbrev pub constant : Bool
  constant = is_const (word_of t)

  abbrev pub declared' : Declared
  declared' = declared_with (space_among (parts_of t)) constant v.of

  pub record Rest (env : Env) (cs : List ℕ) (j : ℕ) (done : List ℕ) : Type 0 where
    pub sound : LinesSound asked env (lines_of (Some type) a (sets x cs j))
    pub sets' : Sets start (behind_lines env (lines_of (Some type) a (sets x cs j))) x.name v.of constant (onto cs done)
    pub kept : (r : List ℕ) → (IsOneOf (map step_name (sets x cs j)) r → ⊥) →
        is_declared (behind_lines env (lines_of (Some type) a (sets x cs j))) r ≡ is_declared env r

  pub component_lines : (cs : List ℕ) (j : ℕ) (done : List ℕ) (env : Env) →
      Sets start env x.name v.of constant done → 2 ≤ length env.scopes → Each (DoneAt env) ss →
      AllFresh env (map step_name (sets x cs j)) → AllDiffer (map step_name (sets x cs j)) →
      ((e : Env) (ds : List ℕ) → Sets start e x.name v.of constant ds → Each (DoneAt e) ss → (i : ℕ) → j ≤ i →
      i < j + length cs → GoodNumber asked (typed_by e declared') (assigned_part a i)) → Rest env cs j done
  component_lines [] j done env s inner d f g values = record { sound = tt; sets' = s; kept = λ r n. refl }
  component_lines (c ∷ cs) j done env s inner d f g values =
      let name = component_name x.name c in
      let value = assigned_part a j in
      let there = meanings.Scalar v.of constant (length env.variables) in
      let plain = number_declaration asked env roles.Other x.span ty.word ty.first ty.last ty.parts declared' name value
      (ty.typed env) (component_is_name x.name c blank) f.0 inner (own_space (space_among (parts_of t)) own)
      (values env done s d j (omega arith) (omega arith)) in
      let line : Declares asked env roles.Other name there (line_of (Some type) a (Set x c j)) =
      subst (λ z. Declares asked env roles.Other name there (line_of (Some z) a (Set x c j))) (sym same)
      (subst (λ z. Declares asked env roles.Other name there (declared_at x.span z name (forest1 value))) (sym ty.is)
      plain) in
      let to = behind env (line_of (Some type) a (Set x c j)) in
      let r = component_lines cs (suc j) (c ∷ done) to
      (sets_next env to x.name v.of constant c (length env.variables) line.adds start done s)
      (subst (λ z. 2 ≤ z) (sym line.adds.scopes) inner)
      (all_kept env to name there line.adds f.0 ss d)
      (fresh_all env to name there line.adds (map step_name (sets x cs (suc j))) g.0 f.1) g.1
      (λ e ds h k i p q. values e ds h k i (omega (arith, p)) (omega (arith, q))) in record {
        sound = (line.sound, r.sound);
        sets' = r.sets';
        kept = λ q n. r.kept q (λ i. n (inr i)) ∙ other_kept env to name there line.adds q (λ i. n (inl i));
      }
