-- Cells of a dat that stand side by side.
use Rattle.std.proofs.Common.{◌≡◌, ◌<◌, ◌≤◌, ◌+◌, ℕ, zero, suc, [], ◌∷◌, ◌++◌, refl, sym, ap, ap₂, ◌∙◌, subst, arith, ⊎_elim, ◌-◌, ◌*◌, pos, length}
use Rattle.std.specs.List.{flat_map}
use Rattle.std.proofs.lemmas.Bool.{cases_lt}
use Rattle.std.proofs.lemmas.List.{flat_map_more, length-map}
use Rattle.kernel_model.specs.declared.types.faults.KernelFault.{KernelFault}
use Rattle.mesh_decl.specs.Mesh.{dat_set, dat_dim, set_size}
use Rattle.schedule_model.specs.Cells.{DatCell, Store}
use Rattle.schedule_model.specs.Setup.{Setup, owner_of}
use Rattle.schedule_model.specs.Layout.{Layout}
use Rattle.bound_program.specs.Values.{BoundValue}
use Rattle.run_model.specs.Windows.{numbers}
use Rattle.run_model.specs.Programs.{program_of}
use Rattle.run_model.specs.Hosts.{dat_cells}
use Rattle.rank_state.specs.declared.owned.Owned.{Owned}
use Rattle.rank_state.specs.Windows.{cells_from}
use Rattle.rank_state.specs.Shows.{Tables}
use Rattle.rank_program.specs.Copies.{IsOwnersCopy}
use Rattle.rank_exec.specs.Standing.{IsJoined, StandOn}
use Rattle.rank_exec.proofs.Hosting.{dat_length, row_cells, row_is, range_more, owner_there}

-- cells, and those behind them
cells_append : (f : ℕ → DatCell) (at m n : ℕ) → cells_from f at (m + n) ≡ cells_from f at m ++ cells_from f (at + m) n
cells_append f at zero n =
    ap₂ (λ a k. cells_from f a k) (let a : at ≡ at + 0 = omega arith in a) (let k : 0 + n ≡ n = omega arith in k)
cells_append f at (suc m) n =
    ap (cells_from f at) (let k : suc m + n ≡ suc (m + n) = omega arith in k)
    ∙ ap (λ l. cells_from f at 1 ++ l)
    (cells_append f (suc at) m n ∙ ap (λ a. cells_from f (suc at) m ++ cells_from f a n) (let a : suc at + m ≡ at + suc m = omega arith in a))

-- one element more
rows_append : (b : BoundValue) (d n : ℕ) → flat_map (row_cells b d) (numbers (n + 1)) ≡ flat_map (row_cells b d) (numbers n) ++ row_cells b d n
rows_append b d n =
    ap (flat_map (row_cells b d)) (range_more 0 n ∙ ap (λ k. numbers n ++ k ∷ []) (let k : 0 + n ≡ n = omega arith in k))
    ∙ sym (flat_map_more (row_cells b d) [] (numbers n) n)

length_cells : (f : ℕ → DatCell) (at n : ℕ) → length (cells_from f at n) ≡ n
length_cells f at zero = refl
length_cells f at (suc n) = ap suc (length_cells f (suc at) n)

module _ (b : BoundValue) (p : Setup KernelFault) (l : Layout KernelFault) (t : Tables) (d : ℕ) where
  -- how many cells a whole dat has
  pub standing_count : (o : Owned) → StandOn b p l d (set_size b.mesh (dat_set b.mesh d)) o → o.dim ≡ set_size b.mesh (dat_set b.mesh d) * dat_dim b.mesh d
  standing_count o stand =
      let s : Store = λ _. pos 0 in
      sym (length_cells (l.cell_at o.rank) o.at o.dim) ∙ (ap length stand.cells ∙ (sym (length-map (dat_cells b d) s) ∙ dat_length b s d))

  -- no element stands anywhere
  pub none_stand : (first : Owned) → IsOwnersCopy b p l d 0 first → StandOn b p l d 0 (record { rank = first.rank; at = first.at; dim = 0 })
  none_stand first own = record {
    rank = own.rank;
    inside = omega (arith, own.inside);
    cells = refl;
    owned = λ j lt. absurd (omega arith);
  }

  pub one_more_stands : p.program ≡ program_of b → (n : ℕ) (o next both : Owned) → n < set_size b.mesh (dat_set b.mesh d)
      → StandOn b p l d n o → IsOwnersCopy b p l d n next → IsJoined o next both → StandOn b p l d (n + 1) both
  one_more_stands is n o next both ln stand own join =
      let f : ℕ → DatCell = l.cell_at o.rank in
      let here : IsOwnersCopy b p l d n (record { rank = o.rank; at = o.at + o.dim; dim = next.dim }) =
      subst (IsOwnersCopy b p l d n) (ap₂ (λ r a. record { rank = r; at = a; dim = next.dim }) join.rank join.at) own in
      subst (StandOn b p l d (n + 1)) (sym join.is)
      (record {
        rank = stand.rank;
        inside = omega (arith, here.inside);
        cells =
            cells_append f o.at o.dim next.dim
            ∙ ap₂ (λ x y. x ++ y) stand.cells (row_is b f d n (o.at + o.dim) next.dim here.dim here.cells)
            ∙ sym (rows_append b d n);
        owned = λ j lj. ⊎_elim
            (λ (lt : j < o.dim). stand.owned j lt)
            (λ (ge : o.dim ≤ j).
            subst (λ k. owner_of p (f k) ≡ o.rank) (let k : o.at + o.dim + (j - o.dim) ≡ o.at + j = omega (arith, ge) in k)
            (owner_there b p l t is d n ln (record { rank = o.rank; at = o.at + o.dim; dim = next.dim }) here (j - o.dim) (omega (arith, ge, lj))))
            (cases_lt j o.dim);
      })
