-- Where a declarator of a vector variable with its initialiser stands, all is in hand that its lines need.
use Rattle.std.proofs.Common.{◌≡◌, List, [], ◌∷◌, Option, Some, None, Bool, true, false}
use Rattle.std.proofs.Common.{refl, ap, sym, ◌∙◌, inl, ◌⊎◌}
use Rattle.std.proofs.lemmas.Option.{none-some}
use Rattle.std.proofs.lemmas.Bool.{false≢true}
use Rattle.wg_num.specs.declared.types.Place.{Place as Position}
use Rattle.cl_model.specs.declared.program.Space.{Space}
use Rattle.cl_model.specs.declared.program.Space.TheVariants as spaces
use Rattle.cl_model.specs.Tree.{Program, Function}
use Rattle.cl_model.specs.Lists.{Each}
use Rattle.cl_tree.specs.declared.tree.Form.TheVariants as forms
use Rattle.cl_tree.specs.Syntax.{Syntax, node, none, more}
use Rattle.cl_meaning.specs.declared.types.Declared.{Declared}
use Rattle.cl_meaning.specs.declared.types.Base.TheVariants.{Integer}
use Rattle.cl_meaning.specs.Spelling.{is_const, declared_in}
use Rattle.cl_meaning.specs.Types.{base_in, space_among, declared_as}
use Rattle.cl_meaning.specs.declared.kind.Role.TheVariants as roles
use Rattle.cl_meaning.specs.Declarations.{word_of, parts_of}
use Rattle.cl_meaning.specs.Environment.{Env, Variable, Array}
use Rattle.cl_meaning.specs.Faults.{Asked}
use Rattle.cl_meaning.specs.Kinds.{callee_of}
use Rattle.cl_meaning.specs.Kinds as callees
use Rattle.cl_check_sound.specs.Shape.{IsType, IsExpressionOf}
use Rattle.cl_check_sound.proofs.Facing.{Finals}
use Rattle.cl_check_sound.proofs.Shapes.{of_expressions}
use Rattle.cl_short_vec.specs.declared.types.Vector.{Vector}
use Rattle.cl_short_vec.specs.declared.roles.Around.TheVariants as around
use Rattle.cl_short_vec.specs.Types.{vector_type}
use Rattle.cl_short_vec.specs.Kinds.{Names}
use Rattle.cl_short_vec.specs.Marks.{Mark, tree_at, marked, marked_parts}
use Rattle.cl_short_vec.specs.Faults.{is_private_at}
use Rattle.cl_short_vec.specs.Nodes.{constant_word}
use Rattle.cl_short_vec.specs.Order.{Step, Offset, Number, Copy, Load, Set, Store, steps_of, initial_steps}
use Rattle.cl_short_vec.specs.Parts.{assigned_part}
use Rattle.cl_short_vec.specs.Scalar.{component_words, scalar}
use Rattle.cl_short_vec.specs.Unit.{declared_name, declarator_lines}
use Rattle.cl_short_vec.proofs.Small.{marked_small}
use Rattle.cl_short_vec_correct.proofs.Parts.{assigned_is}
use Rattle.cl_short_vec_correct.proofs.Scalars.{type_is}
use Rattle.cl_short_vec_correct.proofs.Steps.{initial_are, lines_are, IsValue}
use Rattle.cl_short_vec_correct.specs.Doing.{Got}
use Rattle.cl_short_vec_correct.specs.Emits.{Known}
use Rattle.cl_meaning.specs.Visible.{behind_parts}
use Rattle.cl_short_vec_correct.specs.Each.{initial_of, DeclaratorDoes}
use Rattle.cl_short_vec_correct.proofs.Numbered.{has_declared}
use Rattle.cl_short_vec_correct.proofs.Adds.{IsOwn}
use Rattle.cl_short_vec.proofs.OwnNames.{front_blank}
use Rattle.cl_short_vec_correct.proofs.LineWords.{has_point, point_no_intrinsic, declared_with}
use Rattle.cl_short_vec_correct.proofs.LineWords.{base_word, const_word}
use Rattle.cl_short_vec_correct.proofs.Declared.{behind_typed}
use Rattle.cl_short_vec_correct.proofs.Initial.{type_typed}
use Rattle.cl_short_vec_correct.proofs.Components as components
use Rattle.cl_short_vec_correct.proofs.Seen.{same_called, called_there, Intrinsics, sound_seen}
use Rattle.cl_short_vec_correct.proofs.Values.{initial_worth}
use Rattle.cl_short_vec_correct.proofs.Orders.{initial_ordered}
use Rattle.cl_short_vec_correct.proofs.LeavesFit.{NamesFit, leaves_fit}
use Rattle.cl_short_vec_correct.proofs.Running.{Done}
use Rattle.cl_short_vec_correct.proofs.LeafRuns.{Place, lines_owner}
use Rattle.cl_short_vec_correct.proofs.DeclareRuns.{Around, TypeFits}
use Rattle.cl_short_vec_correct.proofs.Blocks.{sound_front}
use Rattle.cl_short_vec_correct.proofs.InitialRuns.{InitialFacts, declarator_does}
use Rattle.cl_short_vec_correct.proofs.LocalSteps.{setting_local, each_done}
use Rattle.cl_short_vec_correct.proofs.Stands.{InitialHere, Locals}

-- ---- the type of components

-- what stands for a vector type declares the type of its components
type_declares : (t : Syntax) (names : Names) (v : Vector) → IsType t → vector_type t ≡ Some v →
    declared_in (scalar (marked names t)) ≡ Some (declared_with (space_among (parts_of t)) (is_const (word_of t)) v.of)
unfolding scalar marked marked_parts
type_declares (node forms.TypeNode w f l none) names v h e =
    ap (λ z. declared_as (base_in (component_words z w)) (is_const (component_words z w)) None) e ∙
    (ap (λ z. declared_as z (is_const (constant_word (is_const w) v.of)) None) (base_word (is_const w) v.of) ∙
    ap (λ z. declared_as (Some (Integer v.of false)) z None) (const_word (is_const w) v.of))
type_declares (node forms.TypeNode w f l (more (node forms.SpaceNode w' f' l' none) none)) names v h e =
    let s = space_among (more (node forms.SpaceNode w' f' l' none) none) in
    ap (λ z. declared_as (base_in (component_words z w)) (is_const (component_words z w)) s) e ∙
    (ap (λ z. declared_as z (is_const (constant_word (is_const w) v.of)) s) (base_word (is_const w) v.of) ∙
    ap (λ z. declared_as (Some (Integer v.of false)) z s) (const_word (is_const w) v.of))
type_declares t names v h e = absurd h

private_own : (s : Option Space) → is_private_at around.Block s ≡ true → IsOwn s
private_own None h = tt
private_own (Some spaces.Private) h = tt
private_own (Some spaces.Global) h = absurd (false≢true h)
private_own (Some spaces.Constant) h = absurd (false≢true h)
private_own (Some spaces.Local) h = absurd (false≢true h)

-- an expression is an initialiser
value_is : (t : Syntax) → IsExpressionOf true t → IsValue t
value_is (node forms.StarNode w f l ps) h = absurd h
value_is (node form w f l ps) h = inl h

-- known names hold no point
intrinsics_around : (start env : Env) → Around start env → Intrinsics start → Intrinsics env
intrinsics_around start env r h name i e = by (has_point name) refl
  where
    by : (b : Bool) → has_point name ≡ b →
        (callee_of env name ≡ None) ⊎ (callee_of env name ≡ Some (callees.known i))
    by true k = absurd (none-some i (sym (point_no_intrinsic name k) ∙ e))
    by false k = called_there start env name i (same_called start env name r.functions (r.names name k)) (h name i e)

-- leaves that are done are ready behind a type, too
typed_ready : (start env : Env) (d : Declared) (known : List Known) (got : Got) (s : Step) →
    Done start env known got s → components.Done (behind_typed env d) known got.leaves s
typed_ready start env d known got (Offset m) h = (tt, tt)
typed_ready start env d known got (Number of m) h = ((h.variable, h.visible, h.holds), h.fits)
typed_ready start env d known got (Copy of x c) h = ((h.variable, h.visible, h.holds), h.fits)
typed_ready start env d known got (Load m c) h = ((h.variable, h.visible, h.holds), h.fits)
typed_ready start env d known got (Set x c j) h = (tt, tt)
typed_ready start env d known got (Store m c j) h = (tt, tt)

all_typed_ready : (start env : Env) (d : Declared) (known : List Known) (got : Got) (ss : List Step) →
    Each (Done start env known got) ss → Each (components.Done (behind_typed env d) known got.leaves) ss
all_typed_ready start env d known got [] h = tt
all_typed_ready start env d known got (s ∷ ss) h =
    (typed_ready start env d known got s h.0, all_typed_ready start env d known got ss h.1)

-- ---- declarators

module _ (P : Program) (g : Function) (asked : Asked) (vars : List Variable) (arrs : List Array)
    (fin : Finals g vars arrs) where
  module _ (outer names : Names) (env : Env) (v : Vector) (type d te : Syntax)
      (h : InitialHere P g asked vars arrs outer names env v type d te) where
    abbrev t : Mark
    t = marked outer type

    abbrev m : Mark
    m = marked names d

    abbrev e : Mark
    e = marked names te

    fit : NamesFit env names
    fit = (h.stands.named, h.stands.says)

    types : (at : Env) → TypeFits at t (declared_with (space_among (parts_of type)) (is_const (word_of type)) v.of)
    types at =
        let x = type_typed at (declared_with (space_among (parts_of type)) (is_const (word_of type)) v.of)
        (scalar t) (type_is type outer h.typed) (type_declares type outer v h.typed h.type_vector) in
        record { words = x.0; first = x.1; last = x.2; parts = x.3; is = x.4; typed = x.5 }

    facts : InitialFacts P g asked vars arrs fin env v t m e
    facts = record {
      plain = h.stands.flags;
      value_ordered = initial_ordered v e;
      value_fits = leaves_fit env te names false v.of h.value h.value_sourced (marked_small te names h.stands.small)
          fit;
      declared = declared_with (space_among (parts_of type)) (is_const (word_of type)) v.of;
      own = private_own (space_among (parts_of type)) h.private;
      typed = refl;
      blank = front_blank (word_of (tree_at m));
      types = types;
      shapes = assigned_is (initial_of v m e);
      values = λ at known got r done j l sound.
          (let u = behind_typed at (declared_with (space_among (parts_of type)) (is_const (word_of type)) v.of) in
          initial_worth u known got.leaves (r.flags ∙ h.stands.flags) names v m te j h.stands.whole h.value h.same
          h.value_stays
          (all_typed_ready env at (declared_with (space_among (parts_of type)) (is_const (word_of type)) v.of) known got
          (steps_of v.of e) (each_done (Done env at known got) (steps_of v.of e) [] done).0) l
          (sound_seen asked u roles.Other (assigned_part (initial_of v m e) j) (intrinsics_around env u
          (record { names = r.names; functions = r.functions; flags = r.flags }) h.stands.known)
          (of_expressions (assigned_part (initial_of v m e) j) (assigned_is (initial_of v m e) j)) sound));
    }

    place : Place P g asked vars arrs fin env (declarator_lines v t m (Some e))
    place = record {
      scope = h.stands.scope;
      before = h.before;
      at = h.stands.here.at;
      within = h.stands.here.within;
      sound = sound_front (declarator_lines v t m (Some e)) asked env h.before h.rest h.sound;
      shaped = lines_are (Some t) (initial_of v m e) (initial_steps v (declared_name (tree_at m)) e)
          (type_is type outer h.typed) (initial_are v (declared_name (tree_at m)) te names
          (marked_small te names h.stands.small) (value_is te h.value));
      variables = h.ends.0;
      arrays = h.ends.1;
    }

    -- the declarator does its steps
    pub declarator_local : (sites : List Position) → DeclaratorDoes P env sites v t m (Some e)
    declarator_local sites =
        declarator_does P g asked vars arrs fin env v t m e facts place (has_declared P g vars arrs fin env
        (behind_parts env forms.BlockNode false (declarator_lines v t m (Some e)))
        (lines_owner P g asked vars arrs fin env (declarator_lines v t m (Some e)) place) h.stands.owned h.ends.0)
        sites

  -- each statement that sets a vector, and each declarator that initialises one, does its steps
  pub locals : Locals P g asked vars arrs
  locals = record {
    setting = λ names env sites s w ta tb h. setting_local P g asked vars arrs fin names env s w ta tb h sites;
    declarator = λ outer names env sites v type d te h.
        declarator_local outer names env v type d te h sites;
  }
