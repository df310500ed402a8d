-- Trees of elements, and the bytes that they print. (XML 1.0, W3C, fifth edition: productions 10, 39 to 44 and 66 to 68.)
use Rattle.std.specs.Prelude.{ℕ, nat_eq, List, [], ◌∷◌, ◌++◌, codes, if◌then◌else◌}
use Rattle.std.specs.List.{flat_map}
use Rattle.mesh_draw.specs.declared.markup.tags.Attribute.{Attribute}

-- a name and a value
abbrev pub Pair : Type 0
Pair = List ℕ × List ℕ

-- the name and the value of an attribute
abbrev pub attribute_of : Attribute → Pair
attribute_of a = (a.name.now, a.value.now)

mutual
  -- an element, or text
  pub data Node : Type 0 where
    -- an element that holds elements and text
    Element : (name : List ℕ) (attributes : List Pair) (children : Nodes) → Node
    -- an element that holds nothing
    Empty : (name : List ℕ) (attributes : List Pair) → Node
    Text : List ℕ → Node

  -- what an element holds, in order
  pub data Nodes : Type 0 where
    NoNode : Nodes
    MoreNodes : Node → Nodes → Nodes

-- nodes in order
abbrev pub nodes_of : List Node → Nodes
nodes_of [] = NoNode
nodes_of (n ∷ ns) = MoreNodes n (nodes_of ns)

-- a byte as it stands in text and in values: those that mark something there are references
abbrev pub escaped : ℕ → List ℕ
escaped c =
    if nat_eq c 38 then codes "&amp;" else
    (if nat_eq c 60 then codes "&lt;" else
    (if nat_eq c 62 then codes "&gt;" else
    (if nat_eq c 34 then codes "&quot;" else c ∷ [])))

-- an attribute behind a space
abbrev pub attribute_text : Pair → List ℕ
attribute_text (n, v) = codes " " ++ n ++ codes "=\"" ++ flat_map escaped v ++ codes "\""

-- the tag before what an element holds
abbrev pub start_tag : List ℕ → List Pair → List ℕ
start_tag name attributes = codes "<" ++ name ++ flat_map attribute_text attributes ++ codes ">"

-- the tag behind it, and LF
abbrev pub end_tag : List ℕ → List ℕ
end_tag name = codes "</" ++ name ++ codes ">\n"

-- the tag of an element that holds nothing, and LF
abbrev pub empty_tag : List ℕ → List Pair → List ℕ
empty_tag name attributes = codes "<" ++ name ++ flat_map attribute_text attributes ++ codes "/>\n"

-- text that an element holds
abbrev pub text_of : List ℕ → List ℕ
text_of t = flat_map escaped t

abbrev mutual
  -- the bytes of a node
  pub printed : Node → List ℕ
  printed (Element name attributes ns) = start_tag name attributes ++ all_printed ns ++ end_tag name
  printed (Empty name attributes) = empty_tag name attributes
  printed (Text t) = text_of t

  -- the bytes of nodes one behind another
  pub all_printed : Nodes → List ℕ
  all_printed NoNode = []
  all_printed (MoreNodes n ns) = printed n ++ all_printed ns
