-- What is known while the fields of a tile are walked, and what it says of the tile's faults.
use Rattle.std.proofs.Common.{◌≡◌, ℕ, ◌+◌, ◌≤◌, List, [], ◌∷◌, ◌++◌, length, take, Option, Some, None, IfSome, IfNone, sym, ◌∙◌, ap, subst, arith}
use Rattle.std.proofs.Math.Seq.{take-length}
use Rattle.std.proofs.lemmas.List.{length-take-le}
use Rattle.mvt_wire.specs.Field.{Entry, entry_of}
use Rattle.mvt_wire.specs.Message.{FieldList, IsMessage}
use Rattle.mvt_rules.specs.WireFault.{WireFault, EndFault, MessageFault}
use Rattle.mvt_wire.specs.Payload.{spans_of}
use Rattle.mvt_wire.specs.declared.cause.WireCause.{WireCause}
use Rattle.mvt_wire.specs.declared.field.Field.{Field}
use Rattle.mvt_wire.specs.declared.scope.Scope.{Scope}
use Rattle.mvt_wire.specs.declared.scope.Scope.TheVariants as scopes
use Rattle.mvt_wire.specs.declared.schema.Message.TheVariants.{Tile}
use Rattle.mvt_fault.specs.Place.{IsLeast}
use Rattle.mvt_rules.specs.Parts.TrueFaults.{IsWireFault}
use Rattle.mvt_fault.specs.Cause.{wire_fault_in}
use Rattle.mvt_fault.specs.declared.fault.Fault.{Fault}
use Rattle.mvt_wire.specs.Embedded.{FindsFirst}
use Rattle.mvt_tile.specs.Passed.{IsPassed}
use Rattle.mvt_tile.specs.Calls.Embedded.{IsFaultlessLayer, IsFirstOfLayer}
use Rattle.mvt_tile.specs.Calls.Passed.{IsFaultlessAfter, IsFirstAfter, IsKnownTo}
use Rattle.mvt_tile.specs.Calls.Least.{IsLeastCause, FindsLeastCause}
use Rattle.mvt_tile.specs.Calls.FieldScan.{HasScanned, PassesNext, IsFirstFrom}
use Rattle.mvt_tile.specs.declared.wire.Layers.{Layers}
use Rattle.mvt_wire.specs.declared.embedded.EmbeddedScan.{EmbeddedScan}
use Rattle.mvt_tile.specs.declared.wire.scan.FieldScan.{FieldScan}
use Rattle.mvt_tile.proofs.WireFaults.Known.{FindsFirst-known, layer_known}
use Rattle.mvt_tile.proofs.WireFaults.Tiles.{IsLeast-tile, IsLeast-layer, WireFault-none}
use Rattle.mvt_tile.proofs.WireFaults.Walking.{IsScanning, IsScanning-more, IsScanning-whole}

-- the scan has passed these fields
abbrev pub ScansLayers : List ℕ → EmbeddedScan Layers Fault → List Entry → Type 0
ScansLayers bytes scan entries = FindsFirst (IsFaultlessAfter scan.check.passed bytes) (IsFirstAfter scan.check.passed bytes) (spans_of scan.number entries) scan.count scan.first

-- the fields that were passed, and what the two scans keep of them
pub record TileWalk (bytes : List ℕ) (at : ℕ) (own : FieldScan) (layer_scan : EmbeddedScan Layers Fault) : Type 0 where
  pub within : at ≤ length bytes
  pub entries : List Entry
  pub scanning : IsScanning Tile bytes 0 at own entries
  pub layers : ScansLayers bytes layer_scan entries
  pub number : layer_scan.number ≡ 3
  pub few : layer_scan.count ≤ at
  pub known : IsPassed bytes layer_scan.check.passed

-- where the tile's own field wasn't passed the quick way, nothing has changed
pub TileWalk-unchanged : {bytes : List ℕ} {at : ℕ} {own next_own : FieldScan} {layer_scan : EmbeddedScan Layers Fault} → TileWalk bytes at own layer_scan → next_own ≡ own → TileWalk bytes at next_own layer_scan
TileWalk-unchanged {bytes} {at} {layer_scan = layer_scan} so_far same = subst (λ (scan : FieldScan). TileWalk bytes at scan layer_scan) (sym same) so_far

module _ (bytes : List ℕ) (at : ℕ) (own : FieldScan) (layer_scan : EmbeddedScan Layers Fault) (so_far : TileWalk bytes at own layer_scan) where
  -- one more field is passed
  pub TileWalk-more : (read : Field × ℕ) (next_own : FieldScan) (next_layers : EmbeddedScan Layers Fault) → PassesNext Tile bytes at own next_own read
      → next_layers.check ≡ layer_scan.check → next_layers.number ≡ layer_scan.number → next_layers.count ≤ layer_scan.count + 1 → ((entries : List Entry) → ScansLayers bytes layer_scan entries → ScansLayers bytes next_layers (entries ++ entry_of read.0 ∷ []))
      → TileWalk bytes read.1 next_own next_layers
  TileWalk-more read next_own next_layers next check number count noted =
      let further = next.given.further in
      let few = so_far.few in
      record {
        within = next.given.within;
        entries = so_far.entries ++ entry_of read.0 ∷ [];
        scanning = IsScanning-more so_far.scanning next;
        layers = noted so_far.entries so_far.layers;
        number = number ∙ so_far.number;
        few = omega arith;
        known = subst (IsPassed bytes) (sym (ap (λ (layers : Layers). layers.passed) check)) so_far.known;
      }

  -- or has a fault, which is the first of the tile
  pub TileWalk-fault : (cause : WireCause) → IsFirstFrom Tile bytes at own cause → IsLeast (IsWireFault bytes) (wire_fault_in scopes.Tile cause)
  TileWalk-fault cause fault =
      IsLeast-tile bytes cause
      (subst (λ (list : List ℕ). IsLeastCause (MessageFault Tile list 0) cause) (sym (take-length bytes)) (fault 0 so_far.entries so_far.scanning.passed so_far.scanning.passes))

  module _ (over : at ≡ length bytes) where
    -- what the scan of the tile's own fields finds
    scanning : IsScanning Tile (take (length bytes) bytes) 0 at own so_far.entries
    scanning = rw (take-length bytes) so_far.scanning

    whole : IsMessage (take (length bytes) bytes) 0 so_far.entries
    whole = subst (λ (place : ℕ). FieldList (take (length bytes) bytes) 0 so_far.entries place) (over ∙ sym (length-take-le (length bytes) bytes (omega arith))) scanning.passed

    own_finds : (found : Option WireCause) → ((passed : List Entry) → HasScanned Tile own passed → FindsLeastCause (EndFault Tile passed (length bytes)) found)
        → FindsLeastCause (MessageFault Tile (take (length bytes) bytes) 0) found
    own_finds found finds = IsScanning-whole bytes (length bytes) found (omega arith) over scanning finds

    pub TileWalk-own : (cause : WireCause)
        → ((passed : List Entry) → HasScanned Tile own passed → FindsLeastCause (EndFault Tile passed (length bytes)) (Some cause))
        → IsLeast (IsWireFault bytes) (wire_fault_in scopes.Tile cause)
    TileWalk-own cause finds = IsLeast-tile bytes cause (own_finds (Some cause) finds)

    module _ (none : (passed : List Entry) → HasScanned Tile own passed → FindsLeastCause (EndFault Tile passed (length bytes)) None) where
      -- else that of the first layer that has one, or none
      first_of_layers : (found : Option Fault) → FindsFirst (IsFaultlessLayer bytes) (IsFirstOfLayer bytes) (spans_of 3 so_far.entries) layer_scan.count found
          → IfNone found ((scope : Scope) (cause : WireCause) → ¬ WireFault bytes scope cause) × IfSome found (IsLeast (IsWireFault bytes))
      first_of_layers None finds =
          (WireFault-none bytes so_far.entries whole (own_finds None none) layer_scan.count finds, tt)
      first_of_layers (Some fault) finds =
          (tt, IsLeast-layer bytes so_far.entries whole (own_finds None none) fault finds)

      pub TileWalk-layers : IfNone layer_scan.first ((scope : Scope) (cause : WireCause) → ¬ WireFault bytes scope cause) × IfSome layer_scan.first (IsLeast (IsWireFault bytes))
      TileWalk-layers =
          first_of_layers layer_scan.first
          (FindsFirst-known (IsFaultlessLayer bytes) (IsFirstOfLayer bytes) (λ ordinal. IsKnownTo bytes layer_scan.check.passed) (spans_of 3 so_far.entries) layer_scan.count layer_scan.first
          (λ ordinal span here. layer_known bytes layer_scan.check.passed so_far.known ordinal span (record { entries = so_far.entries; whole = whole; here = here }))
          (subst (λ (n : ℕ). FindsFirst (IsFaultlessAfter layer_scan.check.passed bytes) (IsFirstAfter layer_scan.check.passed bytes) (spans_of n so_far.entries) layer_scan.count layer_scan.first) so_far.number so_far.layers))
