-- What is said of the file of a mesh of Gmsh that is refused.
use Rattle.std.specs.Prelude.{ℕ, List, [], ◌++◌, codes}
use Rattle.std.specs.Fmt.{decimal}
use Rattle.gmsh_text.specs.declared.refusal.TextRefusal.{TextRefusal}
use Rattle.gmsh_text.specs.declared.refusal.TextRefusal.TheVariants as text
use Rattle.gmsh_mesh.specs.declared.refusal.GmshRefusal.{GmshRefusal}
use Rattle.gmsh_mesh.specs.declared.refusal.GmshRefusal.TheVariants as mesh

-- a refusal by its number and the line that it tells
abbrev pub said : (number line : ℕ) → List ℕ
said number line = (codes "from-gmsh " ++ decimal number) ++ (codes " line " ++ decimal line)

-- what is said of a text that is refused
abbrev pub said_of_text : TextRefusal → List ℕ
said_of_text (text.Header line) = said 1 line
said_of_text (text.Version line) = said 2 line
said_of_text (text.Binary line) = said 3 line
said_of_text (text.Syntax line) = said 4 line
said_of_text (text.NumberRange line) = said 5 line
said_of_text (text.ElementType line) = said 6 line
said_of_text (text.DuplicateEntity line) = said 7 line
said_of_text text.OutOfMemory = []

-- what is said of a mesh that is refused
abbrev pub said_of_mesh : GmshRefusal → List ℕ
said_of_mesh (mesh.Text cause) = said_of_text cause
said_of_mesh mesh.NoCells = codes "from-gmsh 8"
said_of_mesh (mesh.TwoTypes line) = said 9 line
said_of_mesh (mesh.DuplicateTag line) = said 10 line
said_of_mesh (mesh.UnknownTag line) = said 11 line
said_of_mesh (mesh.Coordinate line largest) = said 12 line ++ (codes " scale " ++ decimal largest)
said_of_mesh (mesh.NotPlane line) = said 13 line
said_of_mesh (mesh.ThirdCell line) = said 14 line
said_of_mesh (mesh.TwoGroups line) = said 15 line
said_of_mesh (mesh.Limit size) = []
said_of_mesh (mesh.Bytes size) = []
said_of_mesh mesh.OutOfMemory = []
