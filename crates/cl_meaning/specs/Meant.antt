-- What each node stands for: one case for each production, from what its parts stand for. And the typed unit.
use Rattle.std.specs.Prelude.{ℕ, suc, Bool, true, false, ◌&&◌, List, [], ◌∷◌, Option, if◌then◌else◌}
use Rattle.std.specs.Str.{bytes_eq}
use Rattle.wg_num.specs.declared.types.Place.{Place}
use Rattle.cl_model.specs.Tree as tree
use Rattle.cl_tree.specs.declared.tree.Form.{Form}
use Rattle.cl_tree.specs.declared.tree.Form.TheVariants as forms
use Rattle.cl_tree.specs.Syntax.{Syntax, node, Forest, none, more}
use Rattle.cl_meaning.specs.Spelling.{name_in, binary_in, setting_in, prefix_in, postfix_in, truth_in, literal_in}
use Rattle.cl_meaning.specs.declared.kind.Kind.{Kind}
use Rattle.cl_meaning.specs.Environment.{Env, Signature, at_start, place_of}
use Rattle.cl_meaning.specs.Kinds.{callee_of}
use Rattle.cl_meaning.specs.Declarations.{declarator_in, signature_in, definitions_in, first_type, parts_of}
use Rattle.cl_meaning.specs.Visible.{inside, later, behind, behind_parts, kind_of, visible_at}
use Rattle.cl_meaning.specs.Typed.{What, nothing, lines, statement, functions, Piece, Built, Made, Function, Unit'}
use Rattle.cl_meaning.specs.Expressions.{made, sited, number_what, truth_what, flagged_made, only_made, comma_made}
use Rattle.cl_meaning.specs.Expressions.{set_made, choice_made, or_made, and_made, binary_made, cast_made}
use Rattle.cl_meaning.specs.Expressions.{prefix_made, postfix_made, call_made}
use Rattle.cl_meaning.specs.Statements.{all_lines, list_made, declarator_made, simple_statement, if_made, while_made}
use Rattle.cl_meaning.specs.Statements.{do_made, loop_made, switch_made, case_made, default_made, returned}
use Rattle.cl_meaning.specs.Statements.{function_made, functions_in}

-- What a node of a production stands for: `env` is visible at it behind its parts and `inner` at the end of them, `w`
-- are its own words and `first` is its first token, and `ps` are its parts, behind which the sites are `sites`.
unfoldable pub make : Env → Env → Form → List ℕ → ℕ → Forest → List Place → List Piece → Built
make env inner forms.NumberNode w first parts sites ps = made (number_what (literal_in w)) sites
make env inner forms.TruthNode w first parts sites ps = made (truth_what (truth_in w)) sites
make env inner forms.VariableNode w first parts sites ps = flagged_made env (place_of env first) sites (name_in w)
make env inner forms.ParenNode w first parts sites ps = only_made sites ps
make env inner forms.ExprNode w first parts sites ps = comma_made sites ps
make env inner forms.AssignNode w first parts sites ps = set_made sites (setting_in w) ps
make env inner forms.CondNode w first parts sites ps = choice_made (place_of env first) sites ps
make env inner forms.OrNode w first parts sites ps = or_made (place_of env first) sites ps
make env inner forms.AndNode w first parts sites ps = and_made (place_of env first) sites ps
make env inner forms.BorNode w first parts sites ps = binary_made sites (binary_in w) ps
make env inner forms.BxorNode w first parts sites ps = binary_made sites (binary_in w) ps
make env inner forms.BandNode w first parts sites ps = binary_made sites (binary_in w) ps
make env inner forms.EqualNode w first parts sites ps = binary_made sites (binary_in w) ps
make env inner forms.OrderNode w first parts sites ps = binary_made sites (binary_in w) ps
make env inner forms.ShiftNode w first parts sites ps = binary_made sites (binary_in w) ps
make env inner forms.SumNode w first parts sites ps = binary_made sites (binary_in w) ps
make env inner forms.TermNode w first parts sites ps = binary_made sites (binary_in w) ps
make env inner forms.CastNode w first parts sites ps = cast_made sites (first_type parts) ps
make env inner forms.UnaryNode w first parts sites ps = prefix_made (place_of env first) sites parts (prefix_in w) ps
make env inner forms.PostfixNode w first parts sites ps = postfix_made (place_of env first) sites (postfix_in w) ps
make env inner forms.CallNode w first parts sites ps =
    call_made (place_of env first) sites ps (callee_of env (name_in w))
make env inner forms.ListNode w first parts sites ps = list_made sites env.declared ps
make env inner forms.DeclaratorNode w first parts sites ps =
    declarator_made env (place_of env first) sites env.declared (declarator_in w first parts) ps
make env inner forms.DeclareNode w first parts sites ps = made (lines (all_lines ps)) sites
make env inner forms.SimpleNode w first parts sites ps = made (statement (simple_statement ps)) sites
make env inner forms.BlockNode w first parts sites ps = made (statement (tree.Block (all_lines ps))) sites
make env inner forms.IfNode w first parts sites ps = if_made (place_of env first) sites ps
make env inner forms.WhileNode w first parts sites ps = while_made (place_of env first) sites ps
make env inner forms.DoNode w first parts sites ps = do_made (place_of env first) sites ps
make env inner forms.ForNode w first parts sites ps = loop_made (place_of env first) sites parts ps
make env inner forms.SwitchNode w first parts sites ps = switch_made (place_of env first) sites ps
make env inner forms.CaseNode w first parts sites ps = case_made env sites parts ps
make env inner forms.DefaultNode w first parts sites ps = default_made sites ps
make env inner forms.BreakNode w first parts sites ps =
    sited (place_of env first) sites (λ site. statement (tree.Break site))
make env inner forms.ContinueNode w first parts sites ps =
    sited (place_of env first) sites (λ site. statement (tree.Continue site))
make env inner forms.ReturnNode w first parts sites ps =
    sited (place_of env first) sites (λ site. statement (tree.Return site (returned env.owner.result ps)))
make env inner forms.FunctionNode w first parts sites ps = function_made inner sites (signature_in w parts) ps
make env inner forms.UnitNode w first parts sites ps = made (functions (functions_in ps)) sites
make env inner form w first parts sites ps = made nothing sites

-- the parts of a node
pub record MadeParts : Type 0 where
  pub pieces : List Piece
  pub sites : List Place

abbrev pub with_piece : Piece → MadeParts → MadeParts
with_piece p ms = record { pieces = p ∷ ms.pieces; sites = ms.sites }

abbrev pub piece_made : Option Kind → Built → Made
piece_made k b = record { piece = record { kind = k; what = b.what }; sites = b.sites }

abbrev pub make_from : Env → Env → Form → List ℕ → ℕ → Forest → MadeParts → Built
make_from env inner form w f parts ms = make env inner form w f parts ms.sites ms.pieces

unfoldable mutual
  -- what a tree stands for, where env is visible and the sites before it are these
  pub meant : Env → List Place → Syntax → Made
  meant env sites (node form w f l parts) =
      piece_made (kind_of env (node form w f l parts)) (make_from (visible_at env (node form w f l parts))
      (behind_parts (inside env form w) form true parts) form w f parts
      (parts_meant (inside env form w) form true sites parts))

  pub parts_meant : Env → Form → Bool → List Place → Forest → MadeParts
  parts_meant env form front sites none = record { pieces = []; sites = sites }
  parts_meant env form front sites (more p ps) =
      with_piece (meant env sites p).piece (parts_meant (later (behind env p) form front p (kind_of env p)) form false
      (meant env sites p).sites ps)

-- the number of the kernel of that name
abbrev pub kernel_from : List ℕ → ℕ → List Signature → ℕ
kernel_from name n [] = n
kernel_from name n (g ∷ gs) = if bytes_eq g.name name && g.kernel then n else kernel_from name (suc n) gs

abbrev pub all_functions : What → List Function
all_functions (functions gs) = gs
all_functions w = []

-- what is visible at a unit
abbrev pub start_of : List Place → Syntax → Env
start_of places unit = at_start places (definitions_in (parts_of unit))

-- the typed unit, with the kernel of that name
abbrev pub unit_meant : List Place → List ℕ → Syntax → Unit'
unit_meant places kernel unit = record {
  tables = (behind (start_of places unit) unit).tables;
  functions = all_functions (meant (start_of places unit) [] unit).piece.what;
  kernel = kernel_from kernel 0 (definitions_in (parts_of unit));
  sites = (meant (start_of places unit) [] unit).sites;
}
