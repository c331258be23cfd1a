-- What a walk through a tree has found: the first node at fault, or what the tree stands for.
use Rattle.std.specs.Prelude.{◌≡◌, ℕ, List, ◌++◌, map, Option, None, Some, true, false, Result, Ok, Err}
use Rattle.wg_num.specs.declared.types.Place.{Place}
use Rattle.cl_tree.specs.declared.tree.Form.{Form}
use Rattle.cl_tree.specs.Syntax.{Syntax, Forest, none}
use Rattle.cl_meaning.specs.declared.fault.Fault.{Fault}
use Rattle.cl_meaning.specs.declared.kind.Kind.{Kind}
use Rattle.cl_meaning.specs.declared.kind.Role.{Role}
use Rattle.cl_meaning.specs.Environment.{Env}
use Rattle.cl_meaning.specs.Visible.{Node, Before, is_front, behind, behind_parts, kinds_of, in_order, parts_in_order}
use Rattle.cl_meaning.specs.Kinds.{kind_step}
use Rattle.cl_meaning.specs.Faults.{Asked, AllSound, FirstFault, Looked, at_fault, token_of}
use Rattle.cl_meaning.specs.Typed.{Piece}
use Rattle.cl_meaning.specs.Meant.{MadeParts, meant, parts_meant}
use Rattle.cl_scope.specs.Walk.{departed}
use Rattle.cl_faults.specs.View.{looked_in}
use Rattle.cl_faults.specs.Least.{IsLeast}
use Rattle.cl_fragment.specs.Making.{make_at}
use Rattle.cl_check.specs.declared.error.CheckError.{CheckError}
use Rattle.cl_check.specs.declared.error.CheckError.TheVariants as errors

-- all nodes of `nodes` that are not in `rest` are sound
pub record Passes (asked : Asked) (end : ℕ) (nodes rest : List Node) : Type 0 where
  pub sound : AllSound asked rest → AllSound asked nodes
  pub first : (k : Fault) (token : ℕ) → FirstFault asked end rest k token → FirstFault asked end nodes k token

-- the tree has no node at fault: this is visible behind it, this is what it stands for, and these are the sites
pub record Walked (asked : Asked) (end : ℕ) (env : Env) (sites : List Place) (role : Role) (t : Syntax) (env' : Env)
    (sites' : List Place) (piece : Piece) : Type 0 where
  pub environment : env' ≡ behind env t
  pub made : record { piece = piece; sites = sites' } ≡ meant env sites t
  pub passes : (rest : List Node) → Passes asked end (in_order env role t rest) rest

-- the first node at fault is in the tree
abbrev pub Faulted : Asked → ℕ → Env → Role → Syntax → Fault → ℕ → Type 0
Faulted asked end env role t k token = (rest : List Node) → FirstFault asked end (in_order env role t rest) k token

-- parts that were made, in front of others
abbrev pub in_front : List Piece → MadeParts → MadeParts
in_front done ms = record { pieces = done ++ ms.pieces; sites = ms.sites }

abbrev pub kinds_in : List Piece → List (Option Kind)
kinds_in ps = map (λ p. p.kind) ps

-- Some parts of a node, which begin with env0 and sites0, are done: no node of theirs is at fault, `done` is what
-- they stand for, and the others begin with env and sites.
pub record Progress (asked : Asked) (end : ℕ) (form : Form) (env0 : Env) (sites0 : List Place) (parts0 : Forest)
    (env : Env) (sites : List Place) (before : Before) (done : List Piece) (parts : Forest) : Type 0 where
  pub environment : behind_parts env0 form true parts0 ≡ behind_parts env form (is_front before) parts
  pub kinds' : kinds_of env0 form true parts0 ≡ kinds_in done ++ kinds_of env form (is_front before) parts
  pub made : parts_meant env0 form true sites0 parts0 ≡
      in_front done (parts_meant env form (is_front before) sites parts)
  pub passes : (rest : List Node) →
      Passes asked end (parts_in_order env0 form None parts0 rest) (parts_in_order env form before parts rest)

-- ---- what the code's steps promise

-- the kind of a node that is looked at
abbrev pub kind_at : Looked → Option Kind
kind_at n = kind_step n.env n.form n.word n.parts n.kinds'

-- where no memory was wanted, and the answer is a fault
abbrev pub IfFault : {A : Type 0} → Result A CheckError → (Fault → ℕ → Type 0) → Type 0
IfFault (Ok a) P = Unit {0}
IfFault (Err (errors.Fault k p)) P = P k p
IfFault (Err errors.Memory) P = Unit {0}

-- all parts of a node are walked through
pub record PartsWalked (asked : Asked) (end : ℕ) (form : Form) (env0 : Env) (sites0 : List Place) (parts : Forest)
    (env : Env) (sites : List Place) (before : Before) (done : List Piece) (ks : List (Option Kind)) : Type 0 where
  pub progress : Progress asked end form env0 sites0 parts env sites before done none
  pub kinds' : ks ≡ kinds_in done

-- the first node at fault is in one of them
abbrev pub PartsFaulted : Asked → ℕ → Form → Env → Forest → Fault → ℕ → Type 0
PartsFaulted asked end form env parts k token =
    (rest : List Node) → FirstFault asked end (parts_in_order env form None parts rest) k token

-- what a node stands for and leaves, where env is visible at it behind its parts and inner at the end of them
pub record IsBuilt (env inner : Env) (sites : List Place) (t : Syntax) (done : List Piece) (ks : List (Option Kind))
    (kind : Option Kind) (env' : Env) (sites' : List Place) (p : Piece) : Type 0 where
  pub kind' : p.kind ≡ kind
  pub what : make_at env inner t sites done ≡ record { what = p.what; sites = sites' }
  pub environment : env' ≡ departed env inner t ks

-- the error reports a fault
abbrev pub IfReported : CheckError → (Fault → ℕ → Type 0) → Type 0
IfReported (errors.Fault k p) P = P k p
IfReported errors.Memory P = Unit {0}

-- a node behind its parts, where env is visible at it and inner at the end of them, is at no fault: what it stands for
pub record IsJudged (asked : Asked) (env inner : Env) (sites : List Place) (role : Role) (t : Syntax)
    (done : List Piece) (ks : List (Option Kind)) (env' : Env) (sites' : List Place) (p : Piece) : Type 0 where
  pub sound : (k : Fault) → at_fault asked (looked_in env role t ks) k ≡ false
  pub built : IsBuilt env inner sites t done ks (kind_at (looked_in env role t ks)) env' sites' p

-- a node is at fault: with its least number, at that token
pub record IsAtFault (asked : Asked) (end : ℕ) (n : Looked) (first : ℕ) (k : Fault) (token : ℕ) : Type 0 where
  pub least : IsLeast asked n (Some k)
  pub place : token ≡ token_of end k first

-- Some parts of a node are walked through: `done` is what they stand for and ks their kinds, and `parts` are left.
pub record PartsAlong (asked : Asked) (end : ℕ) (form : Form) (env0 : Env) (sites0 : List Place) (parts0 : Forest)
    (env : Env) (sites : List Place) (before : Before) (done : List Piece) (ks : List (Option Kind))
    (parts : Forest) : Type 0 where
  pub progress : Progress asked end form env0 sites0 parts0 env sites before done parts
  pub kinds' : ks ≡ kinds_in done
