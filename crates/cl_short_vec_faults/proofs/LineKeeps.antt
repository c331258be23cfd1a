-- Behind a line that declares a helping variable the names of a source stand for what they stood for, and so do the
-- helping variables of other steps.
use Rattle.std.proofs.Common.{◌≡◌, ℕ, Bool, true, false, ◌||◌, nat_eq, List, [], ◌∷◌, length}
use Rattle.std.proofs.Common.{refl, ap, sym, ◌∙◌}
use Rattle.std.proofs.lemmas.Bool.{false≢true}
use Rattle.std.specs.Str.{bytes_eq}
use lib.Pointwise.{bytes_decides}
use Rattle.cl_meaning.specs.declared.kind.Meaning.{Meaning}
use Rattle.cl_meaning.specs.Environment.{Env, Array, Table, is_declared}
use Rattle.cl_short_vec.specs.declared.kinds.Reach.TheVariants.{Value, Variable, Element}
use Rattle.cl_short_vec.specs.declared.kinds.Kind.{Kind}
use Rattle.cl_short_vec.specs.declared.kinds.Kind.TheVariants.{Vectors, Pointer, Other}
use Rattle.cl_short_vec.specs.Kinds.{Names, is_vector}
use Rattle.cl_short_vec.specs.Marks.{mark, tree_at}
use Rattle.cl_short_vec.specs.Nodes.{span_of, component_name, helper}
use Rattle.cl_short_vec.specs.Order.{Step, Offset, Number, Copy, Load, Set, Store}
use Rattle.cl_short_vec_faults.specs.Plainly.{has_point, unnumbered, meant_by, StandsAlike, Plainly}
use Rattle.cl_short_vec_faults.specs.Parts.{StandsForNumber, StandsForPointer, HelpedBy}
use Rattle.cl_short_vec_faults.proofs.LineAdds.{Adds, adds_other, adds_behind}

-- ---- names of helping variables

-- the name that the line of a step declares; of `Set` that of a component, which a declaration declares
abbrev pub step_name : Step → List ℕ
step_name (Offset m) = helper (span_of (tree_at m))
step_name (Number of m) = helper (span_of (tree_at m))
step_name (Copy of x c) = component_name (helper x.span) c
step_name (Load m c) = component_name (helper (span_of (tree_at m))) c
step_name (Set x c j) = component_name x.name c
step_name (Store m c j) = []

-- the name begins with a point
abbrev pub is_helping : List ℕ → Bool
is_helping [] = false
is_helping (b ∷ q) = nat_eq b 46

pub helping_point : (q : List ℕ) → is_helping q ≡ true → has_point q ≡ true
helping_point [] h = absurd (false≢true h)
helping_point (b ∷ q) h = ap (λ z. z || has_point q) h

-- it is no name of a source
source_apart : (name q : List ℕ) → is_helping name ≡ true → has_point q ≡ false → bytes_eq name q ≡ false
source_apart name q h n = by (bytes_eq name q) refl
  where
    by : (b : Bool) → bytes_eq name q ≡ b → b ≡ false
    by false e = refl
    by true e = absurd (false≢true (sym n ∙ (sym (ap has_point ((bytes_decides name q).0 e)) ∙ helping_point name h)))

head_no : (b : ℕ) (q : List ℕ) → has_point (b ∷ q) ≡ false → nat_eq b 46 ≡ false
head_no b q h = by (nat_eq b 46) h
  where
    by : (z : Bool) → (z || has_point q) ≡ false → z ≡ false
    by false e = refl
    by true e = absurd (false≢true (sym e))

pub component_head : (q : List ℕ) (c : ℕ) → has_point q ≡ false → (q ≡ [] → ⊥) → is_helping (component_name q c) ≡ false
component_head [] c n e = absurd (e refl)
component_head (b ∷ q) c n e = head_no b q n

-- nor that of a component of a variable of the source
component_apart : (name q : List ℕ) (c : ℕ) → is_helping name ≡ true → has_point q ≡ false → (q ≡ [] → ⊥) →
    bytes_eq name (component_name q c) ≡ false
component_apart name q c h n e = by (bytes_eq name (component_name q c)) refl
  where
    by : (b : Bool) → bytes_eq name (component_name q c) ≡ b → b ≡ false
    by false i = refl
    by true i = absurd (false≢true (sym (component_head q c n e) ∙
        (sym (ap is_helping ((bytes_decides name (component_name q c)).0 i)) ∙ h)))

-- ---- what names of the source stand for

module _ (env to : Env) (name : List ℕ) (m : Meaning) (a : Adds env to name m) where
  same_meant : (q : List ℕ) → bytes_eq name q ≡ false → meant_by to q ≡ meant_by env q
  same_meant q e = ap unnumbered (adds_other env to name m a q e)

  stands_kept : (k : Kind) (q : List ℕ) (plain : Env) → bytes_eq name q ≡ false →
      (is_vector k ≡ true → (c : ℕ) → bytes_eq name (component_name q c) ≡ false) → StandsAlike k q plain env →
      StandsAlike k q plain to
  stands_kept (Other b) q plain e g h = same_meant q e ∙ h
  stands_kept (Pointer s c v) q plain e g h = (same_meant q e ∙ h.0, h.1)
  stands_kept (Vectors v Variable) q plain e g h =
      (h.0, h.1, λ c l. same_meant (component_name q c) (g refl c) ∙ h.2 c l)
  stands_kept (Vectors v Value) q plain e g h = absurd h
  stands_kept (Vectors v (Element s c)) q plain e g h = absurd h

  pub plainly_kept : (names : Names) (plain : Env) → is_helping name ≡ true → is_vector (names []) ≡ false →
      Plainly names plain env → Plainly names plain to
  plainly_kept names plain p n h = record {
    functions = a.functions ∙ h.functions;
    owner = a.owner ∙ h.owner;
    declared = a.before ∙ h.declared;
    flags = a.flags ∙ h.flags;
    outside = h.outside;
    in_body = a.body ∙ h.in_body;
    in_loop = a.loops ∙ h.in_loop;
    in_switch = a.switches ∙ h.in_switch;
    labels = a.labels ∙ h.labels;
    depth = a.scopes ∙ h.depth;
    arrays = ap (λ (z : List Array). length z) a.arrays ∙ h.arrays;
    tables = ap (λ (z : List Table). length z) a.tables ∙ h.tables;
    names' = λ q u. stands_kept (names q) q plain (source_apart name q p u) (apart q u) (h.names' q u);
    narrow = h.narrow;
  }
    where
      apart : (q : List ℕ) → has_point q ≡ false → is_vector (names q) ≡ true → (c : ℕ) →
          bytes_eq name (component_name q c) ≡ false
      apart q u v c = component_apart name q c p u
          (λ e. false≢true (sym n ∙ (sym (ap (λ z. is_vector (names z)) e) ∙ v)))

  -- ---- helping variables

  number_kept : (q : List ℕ) → is_declared env name ≡ false → is_declared env q ≡ true → StandsForNumber env q →
      StandsForNumber to q
  number_kept q f d h = (h.0, h.1, ap unnumbered (adds_behind env to name m a q f d) ∙ h.2)

  pointer_kept : (k : Kind) (q : List ℕ) → is_declared env name ≡ false → is_declared env q ≡ true →
      StandsForPointer k env q → StandsForPointer k to q
  pointer_kept (Vectors v (Element s c)) q f d h =
      (h.0, h.1, ap unnumbered (adds_behind env to name m a q f d) ∙ h.2)
  pointer_kept (Vectors v Value) q f d h = tt
  pointer_kept (Vectors v Variable) q f d h = tt
  pointer_kept (Pointer s c v) q f d h = tt
  pointer_kept (Other b) q f d h = tt

  -- what a step declared is there still
  pub helped_kept : (s : Step) → is_declared env name ≡ false → is_declared env (step_name s) ≡ true →
      HelpedBy env s → HelpedBy to s
  helped_kept (Offset (mark t k ms)) f d h = pointer_kept k (step_name (Offset (mark t k ms))) f d h
  helped_kept (Number of n) f d h = number_kept (step_name (Number of n)) f d h
  helped_kept (Copy of x c) f d h = number_kept (step_name (Copy of x c)) f d h
  helped_kept (Load n c) f d h = number_kept (step_name (Load n c)) f d h
  helped_kept (Set x c j) f d h = h
  helped_kept (Store n c j) f d h = h

  -- the name is declared, and no other is that was not
  pub declared_here : is_declared to name ≡ true
  declared_here = a.declared name ∙ ap (λ z. z || is_declared env name) ((bytes_decides name name).1 refl)

  pub fresh_kept : (q : List ℕ) → (name ≡ q → ⊥) → is_declared env q ≡ false → is_declared to q ≡ false
  fresh_kept q n f = a.declared q ∙ by (bytes_eq name q) refl
    where
      by : (b : Bool) → bytes_eq name q ≡ b → (b || is_declared env q) ≡ false
      by false e = f
      by true e = absurd (n ((bytes_decides name q).0 e))
