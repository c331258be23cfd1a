-- The lines of some steps one behind the other: those of leaves, and those that set components.
use Rattle.std.proofs.Common.{◌≡◌, ℕ, ◌≤◌, Bool, true, false, ◌&&◌, List, [], ◌∷◌, ◌++◌, map, length, Option, Some}
use Rattle.std.proofs.Common.{refl, ap, sym, ◌∙◌, subst, inl, inr}
use Rattle.std.specs.Prelude.{codes, ◌||◌}
use Rattle.std.specs.Str.{bytes_eq}
use lib.Pointwise.{bytes_decides}
use Rattle.wg_num.specs.declared.types.IntType.{IntType}
use Rattle.cl_model.specs.Lists.{Each, IsOneOf, AllDiffer}
use Rattle.cl_tree.specs.declared.tree.Form.TheVariants as forms
use Rattle.cl_tree.specs.Syntax.{Syntax, Forest, none, more, last_of}
use Rattle.cl_meaning.specs.Operators.{setting_in}
use Rattle.cl_meaning.specs.declared.operators.Setting.TheVariants as settings
use Rattle.cl_meaning.specs.declared.fault.Fault.{Fault}
use Rattle.cl_meaning.specs.declared.fault.Fault.TheVariants as faults
use Rattle.cl_meaning.specs.declared.kind.Reach.{Reach}
use Rattle.cl_meaning.specs.declared.kind.Kind.TheVariants as kinds
use Rattle.cl_meaning.specs.declared.kind.Meaning.{Meaning}
use Rattle.cl_meaning.specs.declared.kind.Role.TheVariants as roles
use Rattle.cl_meaning.specs.Environment.{Env, Scope, is_declared}
use Rattle.cl_meaning.specs.Kinds.{number, is_target, is_constant_memory, kind_step}
use Rattle.cl_meaning.specs.Visible.{Before, inside, later, restored, left, closed, behind, behind_parts}
use Rattle.cl_meaning.specs.Faults.{Asked, at_fault, looked_at, misfits, unassignable}
use Rattle.cl_check_sound.specs.Sound.{SoundTree, SoundParts}
use Rattle.cl_check_sound.proofs.Neutral.{closed_same, neutral}
use Rattle.cl_short_vec.specs.declared.nodes.Span.{Span}
use Rattle.cl_short_vec.specs.Kinds.{Names, is_vector}
use Rattle.cl_short_vec.specs.Marks.{Mark}
use Rattle.cl_short_vec.specs.Nodes.{assigned_at, statement_at}
use Rattle.cl_short_vec.specs.Order.{Step, Offset, Number, Copy, Load, Set, Store}
use Rattle.cl_short_vec.specs.Parts.{Assigned}
use Rattle.cl_short_vec.specs.Unit.{line_of, lines_of}
use Rattle.cl_short_vec_faults.specs.Plainly.{Plainly}
use Rattle.cl_short_vec_faults.specs.Law.{Called}
use Rattle.cl_short_vec_faults.specs.Parts.{HelpedBy}
use Rattle.cl_short_vec_faults.proofs.LineKeeps.{step_name}
use Rattle.cl_short_vec_faults.proofs.Building.{Good}
use Rattle.cl_short_vec_faults.proofs.Nodes.{two_good}
use Rattle.cl_short_vec_faults.proofs.Known.{set_known}
use Rattle.cl_short_vec_faults.proofs.PartNodes.{GoodNumber}
use Rattle.cl_short_vec_faults.proofs.LineAdds.{Adds, keeps_declared}
use Rattle.cl_short_vec_faults.proofs.LineKeeps.{is_helping, plainly_kept, helped_kept, declared_here, fresh_kept}
use Rattle.cl_short_vec_faults.proofs.LineLeaves.{ElementFits, NumberFits, CopyFits, LoadFits, Line, offset_sound}
use Rattle.cl_short_vec_faults.proofs.LineLeaves.{number_sound, copy_sound, load_sound}
use Rattle.cl_short_vec_faults.proofs.LineOrders.{Ordered, all_done}

-- ---- lines one behind the other

abbrev pub LinesSound : Asked → Env → Forest → Type 0
LinesSound asked env none = Unit {0}
LinesSound asked env (more p ps) = SoundTree asked env roles.Other p × LinesSound asked (behind env p) ps

abbrev pub behind_lines : Env → Forest → Env
behind_lines env none = env
behind_lines env (more p ps) = behind_lines (behind env p) ps

pub lines_parts : (asked : Asked) (env : Env) (b : Before) (ps : Forest) → LinesSound asked env ps →
    SoundParts asked env forms.BlockNode b ps
unfolding later
lines_parts asked env b none h = tt
lines_parts asked env b (more p ps) h = (h.0, lines_parts asked (behind env p) (Some (last_of p)) ps h.1)

pub lines_append : (asked : Asked) (env : Env) (type : Option Mark) (a : Assigned) (xs ys : List Step) →
    LinesSound asked env (lines_of type a xs) →
    LinesSound asked (behind_lines env (lines_of type a xs)) (lines_of type a ys) →
    LinesSound asked env (lines_of type a (xs ++ ys))
lines_append asked env type a [] ys h k = k
lines_append asked env type a (s ∷ xs) ys h k =
    (h.0, lines_append asked (behind env (line_of type a s)) type a xs ys h.1 k)

pub behind_append : (env : Env) (type : Option Mark) (a : Assigned) (xs ys : List Step) →
    behind_lines env (lines_of type a (xs ++ ys)) ≡ behind_lines (behind_lines env (lines_of type a xs)) (lines_of
    type a ys)
behind_append env type a [] ys = refl
behind_append env type a (s ∷ xs) ys = behind_append (behind env (line_of type a s)) type a xs ys

pub parts_behind : (env : Env) (front : Bool) (ps : Forest) → behind_parts env forms.BlockNode front ps ≡ behind_lines
    env ps
unfolding behind_parts later
parts_behind env front none = refl
parts_behind env front (more p ps) = parts_behind (behind env p) false ps

-- ---- leaves

-- names that are not declared
abbrev pub AllFresh : Env → List (List ℕ) → Type 0
AllFresh env qs = Each (λ q. is_declared env q ≡ false) qs

pub fresh_all : (env to : Env) (name : List ℕ) (m : Meaning) → Adds env to name m → (qs : List (List ℕ)) →
    (IsOneOf qs name → ⊥) → AllFresh env qs → AllFresh to qs
fresh_all env to name m a [] n h = tt
fresh_all env to name m a (q ∷ qs) n h = (
  fresh_kept env to name m a q (λ e. n (inl (sym e))) h.0,
  fresh_all env to name m a qs (λ i. n (inr i)) h.1,
)

-- another name is declared as before
pub other_kept : (env to : Env) (name : List ℕ) (m : Meaning) → Adds env to name m → (q : List ℕ) → (name ≡ q → ⊥) →
    is_declared to q ≡ is_declared env q
other_kept env to name m a q n = a.declared q ∙ by (bytes_eq name q) refl
  where
    by : (b : Bool) → bytes_eq name q ≡ b → (b || is_declared env q) ≡ is_declared env q
    by false e = refl
    by true e = absurd (n ((bytes_decides name q).0 e))

-- what a step declared is there
abbrev pub DoneAt : Env → Step → Type 0
DoneAt env s = HelpedBy env s × (is_declared env (step_name s) ≡ true)

pub each_found : {A : Type 0} (P : A → Type 0) (xs : List A) (x : A) → Each P xs → IsOneOf xs x → P x
each_found P [] x h i = absurd i
each_found P (y ∷ xs) x h (inl e) = subst P e h.0
each_found P (y ∷ xs) x h (inr i) = each_found P xs x h.1 i

pub each_done : (P : Step → Type 0) (ss done : List Step) → Each P (all_done ss done) → Each P ss × Each P done
each_done P [] done h = (tt, h)
each_done P (s ∷ ss) done h = let r = each_done P ss (s ∷ done) h in ((r.1.0, r.0), r.1.1)

pub each_helped : (env : Env) (ss : List Step) → Each (DoneAt env) ss → Each (HelpedBy env) ss
each_helped env [] h = tt
each_helped env (s ∷ ss) h = (h.0.0, each_helped env ss h.1)

abbrev pub LeafFits : Asked → Names → Env → Step → Type 0
LeafFits asked names plain (Offset m) = ElementFits asked names plain m
LeafFits asked names plain (Number of m) = NumberFits asked names plain m
LeafFits asked names plain (Copy of x c) = CopyFits names x c
LeafFits asked names plain (Load m c) = LoadFits m c
LeafFits asked names plain (Set x c j) = ⊥
LeafFits asked names plain (Store m c j) = ⊥

module _ (asked : Asked) (names : Names) (plain : Env) (give : Called asked plain)
    (nameless : is_vector (names []) ≡ false) where
  -- behind the lines of some steps
  pub record Stage (env : Env) (done : List Step) : Type 0 where
    pub alike : Plainly names plain env
    pub inner : 2 ≤ length env.scopes
    pub all : Each (DoneAt env) done

  all_kept : (env to : Env) (name : List ℕ) (m : Meaning) → Adds env to name m → is_declared env name ≡ false →
      (ss : List Step) → Each (DoneAt env) ss → Each (DoneAt to) ss
  all_kept env to name m a f [] h = tt
  all_kept env to name m a f (s ∷ ss) h = (
    (helped_kept env to name m a s f h.0.1 h.0.0, keeps_declared env to name m a (step_name s) h.0.1),
    all_kept env to name m a f ss h.1,
  )

  next_stage : (env : Env) (done : List Step) (s : Step) (t : Syntax) → is_helping (step_name s) ≡ true →
      is_declared env (step_name s) ≡ false → Stage env done → Line asked env s t → Stage (behind env t) (s ∷ done)
  next_stage env done s t p f g l =
      let a = l.declares.adds in record {
        alike = plainly_kept env (behind env t) (step_name s) l.meaning a names plain p nameless g.alike;
        inner = subst (λ z. 2 ≤ z) (sym a.scopes) g.inner;
        all = (
          (l.helped, declared_here env (behind env t) (step_name s) l.meaning a),
          all_kept env (behind env t) (step_name s) l.meaning a f done g.all,
        );
      }

  -- what is shown of the lines of some leaves, with the names of later ones
  pub record Leaves (env : Env) (type : Option Mark) (a : Assigned) (ss done : List Step) (others : List (List ℕ)) :
      Type 0 where
    pub sound : LinesSound asked env (lines_of type a ss)
    pub stage : Stage (behind_lines env (lines_of type a ss)) (all_done ss done)
    pub fresh : AllFresh (behind_lines env (lines_of type a ss)) others
    pub kept : (r : List ℕ) → (IsOneOf (map step_name ss) r → ⊥) →
        is_declared (behind_lines env (lines_of type a ss)) r ≡ is_declared env r
    pub outer : (xs : List Scope) (x : Scope) → env.scopes ≡ xs ++ x ∷ [] →
        (y : Scope) × ((behind_lines env (lines_of type a ss)).scopes ≡ xs ++ y ∷ [])

  more_leaves : (env : Env) (type : Option Mark) (a : Assigned) (s : Step) (ss done : List Step)
      (others : List (List ℕ)) → is_helping (step_name s) ≡ true → Stage env done →
      AllFresh env (map step_name (s ∷ ss) ++ others) → AllDiffer (map step_name (s ∷ ss) ++ others) →
      Line asked env s (line_of type a s) → (Stage (behind env (line_of type a s)) (s ∷ done) →
      AllFresh (behind env (line_of type a s)) (map step_name ss ++ others) →
      Leaves (behind env (line_of type a s)) type a ss (s ∷ done) others) → Leaves env type a (s ∷ ss) done others
  more_leaves env type a s ss done others p g f d l k =
      let r = k (next_stage env done s (line_of type a s) p f.0 g l)
      (fresh_all env (behind env (line_of type a s)) (step_name s) l.meaning l.declares.adds
      (map step_name ss ++ others) d.0 f.1) in
      record {
        sound = (l.declares.sound, r.sound);
        stage = r.stage;
        fresh = r.fresh;
        kept = λ q n. r.kept q (λ i. n (inr i)) ∙ other_kept env (behind env (line_of type a s)) (step_name s) l.meaning
            l.declares.adds q (λ i. n (inl i));
        outer = λ xs x e. let y = l.declares.adds.outer xs x e in r.outer xs y.0 y.1;
      }

  pub leaves_sound : (env : Env) (type : Option Mark) (a : Assigned) (ss done : List Step) (others : List (List ℕ)) →
      Stage env done → Each (LeafFits asked names plain) ss → Ordered done ss → AllFresh env (map step_name ss ++
      others) →
      AllDiffer (map step_name ss ++ others) → Leaves env type a ss done others
  leaves_sound env type a [] done others g h o f d =
      record { sound = tt; stage = g; fresh = f; kept = λ r n. refl; outer = λ xs x e. (x, e) }
  leaves_sound env type a (Offset m ∷ ss) done others g h o f d =
      more_leaves env type a (Offset m) ss done others refl g f d
      (offset_sound asked names plain give env g.alike g.inner m h.0 f.0)
      (λ x y. leaves_sound (behind env (line_of type a (Offset m))) type a ss (Offset m ∷ done) others x h.1 o y d.1)
  leaves_sound env type a (Number of m ∷ ss) done others g h o f d =
      more_leaves env type a (Number of m) ss done others refl g f d
      (number_sound asked names plain give env g.alike g.inner of m h.0 f.0)
      (λ x y. leaves_sound (behind env (line_of type a (Number of m))) type a ss (Number of m ∷ done) others x h.1 o y
      d.1)
  leaves_sound env type a (Copy of x c ∷ ss) done others g h o f d =
      more_leaves env type a (Copy of x c) ss done others refl g f d
      (copy_sound asked names plain give env g.alike g.inner of x c h.0 f.0)
      (λ z y. leaves_sound (behind env (line_of type a (Copy of x c))) type a ss (Copy of x c ∷ done) others z h.1 o y
      d.1)
  leaves_sound env type a (Load m c ∷ ss) done others g h o f d =
      more_leaves env type a (Load m c) ss done others refl g f d
      (load_sound asked names plain give env g.alike g.inner m c h.0
      (each_found (DoneAt env) done (Offset m) g.all o.0).0 f.0)
      (λ x y. leaves_sound (behind env (line_of type a (Load m c))) type a ss (Load m c ∷ done) others x h.1 o.1 y d.1)
  leaves_sound env type a (Set x c j ∷ ss) done others g h o f d = absurd h.0
  leaves_sound env type a (Store m c j ∷ ss) done others g h o f d = absurd h.0

-- ---- statements that set a number

tested_no : (b : Bool) → (b && false) ≡ false
tested_no true = refl
tested_no false = refl

module _ (asked : Asked) (env : Env) (s : Span) (x v : Syntax) (of : IntType) (p : Reach)
    (target : Good asked env roles.Other x (kinds.Number of p)) (value : GoodNumber asked env v)
    (free : unassignable (kinds.Number of p) ≡ false) (unwritten : is_constant_memory (kinds.Number of p) ≡ false) where
  assigned_good : Good asked env roles.Whole (assigned_at (codes "=") s x v) (number of)
  unfolding kind_step misfits setting_in
  assigned_good =
      let b = kinds.Number value.0 value.1 in
      two_good asked env roles.Whole forms.AssignNode (codes "=") s.first s.last (number of) refl refl x v
      (kinds.Number of p) b target value.2 (record {
        known = refl;
        fit = tested_no (is_target (kinds.Number of p));
        tested = refl;
        counted = refl;
        passed = refl;
        assignable = free;
        written = unwritten;
        ends = refl;
        rooted = tested_no (is_target (kinds.Number of p));
        flagged = refl;
      }) (set_known settings.Plain (kinds.Number of p) b (tested_no (is_target (kinds.Number of p))) free unwritten
      (tested_no (is_target (kinds.Number of p))))

  pub setting_sound : SoundTree asked env roles.Other (statement_at s x v)
  unfolding inside later misfits kind_step
  setting_sound = ((assigned_good.sound, tt), (by, tt))
    where
      by : (k : Fault) → at_fault asked (looked_at env roles.Other (statement_at s x v)) k ≡ false
      by faults.UnknownName = refl
      by _ = refl

  -- it declares nothing
  pub setting_behind : behind env (statement_at s x v) ≡ env
  unfolding behind behind_parts left restored inside later
  setting_behind =
      ap (λ z. closed env z) (neutral env (assigned_at (codes "=") s x v) assigned_good.made) ∙ closed_same env
