-- The node of each production, from its own tokens and its parts.
use Rattle.std.specs.Prelude.{ℕ, List, [], ◌∷◌, ◌++◌}
use Rattle.cl_tree.specs.declared.terminal.Terminal.{Terminal}
use Rattle.cl_tree.specs.declared.terminal.Leaf.{Leaf}
use Rattle.cl_tree.specs.declared.tree.Form.{Form}
use Rattle.cl_tree.specs.declared.tree.Form.TheVariants as forms
use Rattle.cl_tree.specs.Syntax.{Syntax, node, Forest, none, more, first_of, last_of, first_in, last_in, joined}

-- the number and the spelling of a token whose terminal is known
pub record Spot : Type 0 where
  pub number : ℕ
  pub word : List ℕ

-- the token of that terminal with that number and spelling
abbrev pub tok : Terminal → Spot → Leaf
tok k m = record { number = m.number; terminal = k; word = m.word }

-- the spellings of tokens, joined by one blank
abbrev pub spelled : List Spot → List ℕ
spelled [] = []
spelled (m ∷ []) = m.word
spelled (m ∷ (n ∷ ms)) = m.word ++ (32 ∷ spelled (n ∷ ms))

-- the number of the first token of a list, or else the given one
abbrev pub first_spot : List Spot → ℕ → ℕ
first_spot [] n = n
first_spot (m ∷ ms) n = m.number

-- the number of the last token of a list, or else the given one
abbrev pub last_spot : List Spot → ℕ → ℕ
last_spot [] n = n
last_spot (m ∷ ms) n = last_spot ms m.number

abbrev pub tree_of : Form → List Spot → ℕ → ℕ → Forest → Syntax
tree_of f own first last parts = node f (spelled own) first last parts

abbrev pub forest1 : Syntax → Forest
forest1 a = more a none

abbrev pub forest2 : Syntax → Syntax → Forest
forest2 a b = more a (more b none)

abbrev pub forest3 : Syntax → Syntax → Syntax → Forest
forest3 a b c = more a (more b (more c none))

-- a node of one token
abbrev pub word_node : Form → Spot → Syntax
word_node f m = tree_of f (m ∷ []) m.number m.number none

-- a node of two operands and the operator between them
abbrev pub pair_node : Form → Syntax → Spot → Syntax → Syntax
pair_node f l m r = tree_of f (m ∷ []) (first_of l) (last_of r) (forest2 l r)

-- ---- the unit

abbrev pub unit_node : Forest → Syntax
unit_node items = tree_of forms.UnitNode [] (first_in items 0) (last_in items 0) items

abbrev pub function_node : Forest → Syntax → Spot → Spot → Syntax → Spot → Syntax → Syntax
function_node heads r m o ps c b =
    tree_of forms.FunctionNode (m ∷ o ∷ c ∷ []) (first_in heads (first_of r)) (last_of b)
    (joined heads (forest3 r ps b))

abbrev pub prototype_node : Forest → Syntax → Spot → Spot → Syntax → Spot → Spot → Syntax
prototype_node heads r m o ps c s =
    tree_of forms.PrototypeNode (m ∷ o ∷ c ∷ s ∷ []) (first_in heads (first_of r)) s.number
    (joined heads (forest2 r ps))

-- a node of one part and no token
abbrev pub alone_node : Form → Syntax → Syntax
alone_node f t = tree_of f [] (first_of t) (last_of t) (forest1 t)

abbrev pub attribute_node : Spot → Spot → Spot → Spot → Spot → Syntax → Spot → Syntax → Spot → Syntax → Spot → Spot →
    Spot → Syntax
attribute_node w o p n q a j b k c x y z =
    tree_of forms.AttributeNode (w ∷ o ∷ p ∷ n ∷ q ∷ j ∷ k ∷ x ∷ y ∷ z ∷ []) w.number z.number (forest3 a b c)

-- the parameters, before the token that closes them
abbrev pub params_node : List Spot → Forest → Spot → Syntax
params_node own ts c =
    tree_of forms.ParamsNode own (first_in ts (first_spot own c.number)) (last_in ts (last_spot own c.number)) ts

abbrev pub param_node : Syntax → Forest → Spot → Syntax
param_node t stars m = tree_of forms.ParamNode (m ∷ []) (first_of t) m.number (more t stars)

-- ---- types and declarations

abbrev pub type_node : List Spot → Syntax
type_node own = tree_of forms.TypeNode own (first_spot own 0) (last_spot own 0) none

-- a type with its address space before its base
abbrev pub type_front_node : List Spot → Syntax → List Spot → List Spot → List Spot → Syntax
type_front_node a s b d c =
    tree_of forms.TypeNode (a ++ (b ++ (d ++ c))) (first_spot a (first_of s)) (last_spot c (last_spot d 0)) (forest1 s)

-- a type with its address space behind its base
abbrev pub type_behind_node : List Spot → List Spot → List Spot → Syntax → List Spot → Syntax
type_behind_node a d b s c =
    tree_of forms.TypeNode (a ++ (d ++ (b ++ c))) (first_spot a (first_spot d 0)) (last_spot c (last_of s)) (forest1 s)

abbrev pub star_node : Spot → List Spot → Syntax
star_node o own = tree_of forms.StarNode (o ∷ own) o.number (last_spot own o.number) none

abbrev pub declare_node : Syntax → Syntax → List Spot → Forest → Spot → Syntax
declare_node t d own ds s = tree_of forms.DeclareNode (own ++ (s ∷ [])) (first_of t) s.number (more t (more d ds))

abbrev pub declarator_node : Forest → Spot → List Spot → Forest → Syntax
declarator_node stars m own ds =
    tree_of forms.DeclaratorNode (m ∷ own) (first_in stars m.number) (last_spot own m.number) (joined stars ds)

abbrev pub declarator_set_node : Forest → Spot → List Spot → Forest → Spot → Syntax → Syntax
declarator_set_node stars m own ds e i =
    tree_of forms.DeclaratorNode (m ∷ (own ++ (e ∷ []))) (first_in stars m.number) (last_of i)
    (joined stars (joined ds (forest1 i)))

abbrev pub list_node : Spot → Syntax → List Spot → Forest → Spot → Syntax
list_node o t own ts c = tree_of forms.ListNode (o ∷ (own ++ (c ∷ []))) o.number c.number (more t ts)

-- ---- statements

abbrev pub block_node : Spot → Forest → Spot → Syntax
block_node o ts c = tree_of forms.BlockNode (o ∷ c ∷ []) o.number c.number ts

abbrev pub simple_node : Forest → Spot → Syntax
simple_node ts s = tree_of forms.SimpleNode (s ∷ []) (first_in ts s.number) s.number ts

abbrev pub if_node : Spot → Spot → Syntax → Spot → Syntax → Syntax
if_node i o e c s = tree_of forms.IfNode (i ∷ o ∷ c ∷ []) i.number (last_of s) (forest2 e s)

abbrev pub if_else_node : Spot → Spot → Syntax → Spot → Syntax → Spot → Syntax → Syntax
if_else_node i o e c s k u = tree_of forms.IfNode (i ∷ o ∷ c ∷ k ∷ []) i.number (last_of u) (forest3 e s u)

abbrev pub while_node : Spot → Spot → Syntax → Spot → Syntax → Syntax
while_node w o e c s = tree_of forms.WhileNode (w ∷ o ∷ c ∷ []) w.number (last_of s) (forest2 e s)

abbrev pub do_node : Spot → Syntax → Spot → Spot → Syntax → Spot → Spot → Syntax
do_node d s w o e c m = tree_of forms.DoNode (d ∷ w ∷ o ∷ c ∷ m ∷ []) d.number m.number (forest2 s e)

abbrev pub for_node : Spot → Spot → Syntax → Forest → Spot → Forest → Spot → Syntax → Syntax
for_node f o d ts s us c b =
    tree_of forms.ForNode (f ∷ o ∷ s ∷ c ∷ []) f.number (last_of b) (more d (joined ts (joined us (forest1 b))))

abbrev pub switch_node : Spot → Spot → Syntax → Spot → Spot → Forest → Spot → Syntax
switch_node w o e c b ts d = tree_of forms.SwitchNode (w ∷ o ∷ c ∷ b ∷ d ∷ []) w.number d.number (more e ts)

abbrev pub case_node : Spot → Syntax → Spot → Syntax → Syntax
case_node w e c s = tree_of forms.CaseNode (w ∷ c ∷ []) w.number (last_of s) (forest2 e s)

abbrev pub default_node : Spot → Spot → Syntax → Syntax
default_node w c s = tree_of forms.DefaultNode (w ∷ c ∷ []) w.number (last_of s) (forest1 s)

-- `break`, `continue` or `return`, with what it returns
abbrev pub leave_node : Form → Spot → Forest → Spot → Syntax
leave_node f w ts s = tree_of f (w ∷ s ∷ []) w.number s.number ts

-- ---- expressions

abbrev pub cond_node : Syntax → Spot → Syntax → Spot → Syntax → Syntax
cond_node t q a c b = tree_of forms.CondNode (q ∷ c ∷ []) (first_of t) (last_of b) (forest3 t a b)

abbrev pub cast_node : Spot → Syntax → Spot → Syntax → Syntax
cast_node o t c e = tree_of forms.CastNode (o ∷ c ∷ []) o.number (last_of e) (forest2 t e)

abbrev pub prefix_node : Spot → Syntax → Syntax
prefix_node m e = tree_of forms.UnaryNode (m ∷ []) m.number (last_of e) (forest1 e)

abbrev pub sizeof_node : Spot → Spot → Syntax → Spot → Syntax
sizeof_node w o t c = tree_of forms.UnaryNode (w ∷ o ∷ c ∷ []) w.number c.number (forest1 t)

abbrev pub index_node : Syntax → Spot → Syntax → Spot → Syntax
index_node l o e c = tree_of forms.PostfixNode (o ∷ c ∷ []) (first_of l) c.number (forest2 l e)

abbrev pub step_node : Syntax → Spot → Syntax
step_node l m = tree_of forms.PostfixNode (m ∷ []) (first_of l) m.number (forest1 l)

-- a selection of components
abbrev pub selection_node : Syntax → Spot → Spot → Syntax
selection_node l d n = tree_of forms.PostfixNode (d ∷ n ∷ []) (first_of l) n.number (forest1 l)

-- a call, with its arguments and the commas between them
abbrev pub call_node : Spot → Spot → List Spot → Forest → Spot → Syntax
call_node m o own ts c = tree_of forms.CallNode (m ∷ o ∷ (own ++ (c ∷ []))) m.number c.number ts

abbrev pub paren_node : Spot → Syntax → Spot → Syntax
paren_node o e c = tree_of forms.ParenNode (o ∷ c ∷ []) o.number c.number (forest1 e)
