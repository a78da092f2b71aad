-- What is wrong by the profile that checks each polygon by itself is wrong by that which keeps a feature's polygons apart.
use Rattle.std.proofs.Common.{ℕ, List}
use Rattle.mvt_fault.specs.declared.fault.Fault.{Fault}
use Rattle.mvt_fault.specs.declared.fault.Fault.TheVariants.{Meeting, InPolygon}
use Rattle.mvt_fault.specs.declared.profile.Profile.TheVariants.{Polygon, Feature}
use Rattle.mvt_fault.specs.declared.ring.RingEdge.{RingEdge}
use Rattle.mvt_rules.specs.Polygon.{PolygonRings}
use Rattle.mvt_plane.specs.Position.{Position}
use Rattle.mvt_plane.specs.Geometry.RationalPoint.{RationalPoint}
use Rattle.mvt_rules.specs.Tile.{FeatureRecord, LayerRecord}
use Rattle.mvt_rules.specs.PolygonFault.{IsMeetingBy}
use Rattle.mvt_rules.specs.Shows.{ShowsBy}
use Rattle.mvt_rules.specs.Valid.{IsValidPolygonBy, IsValidGeometryBy, IsValidFeatureBy, IsValidTileBy, ValidBy}

-- a meeting in a polygon is one in its feature
meeting_in_feature : (rings : List (List Position)) (polygon : ℕ) (first second : RingEdge) (point : RationalPoint) → IsMeetingBy Polygon rings polygon first second point → IsMeetingBy Feature rings polygon first second point
meeting_in_feature rings polygon first second point meeting = record {
  polygon_rings = meeting.polygon_rings;
  of = meeting.of;
  first_in = meeting.first_in.before;
  second_in = meeting.second_in;
  in_order = meeting.in_order;
  bounded = meeting.bounded;
  meets = meeting.meets;
}

-- so what is shown is shown
pub shown_in_feature : (bytes : List ℕ) (fault : Fault) → ShowsBy Polygon bytes fault → ShowsBy Feature bytes fault
shown_in_feature bytes (Meeting layer feature polygon first second x y w) (layer_record, it, there, (rings, has, meeting)) =
    (layer_record, it, there, (rings, has, meeting_in_feature rings polygon first second (record { x = x; y = y; w = w }) meeting))
shown_in_feature bytes (InPolygon layer feature polygon vertex other) shown = absurd (shown.3.2.inside)
shown_in_feature bytes fault shown = shown

-- The other way round

-- polygons that are valid in their feature are valid by themselves
polygon_by_itself : (rings : List (List Position)) (its : PolygonRings) → IsValidPolygonBy Feature rings its → IsValidPolygonBy Polygon rings its
polygon_by_itself rings its valid = record {
  apart = λ first second point first_in second_in. valid.apart first second point first_in.before second_in;
  enclosed = valid.enclosed;
  side_by_side = valid.side_by_side;
  beside = λ vertex other other_rings there inside. inside;
}

-- so are geometries
geometry_by_itself : (it : FeatureRecord) → IsValidGeometryBy Feature it → IsValidGeometryBy Polygon it
geometry_by_itself it valid = record {
  figure = valid.figure;
  polygons = λ rings has. let its = valid.polygons rings has in record {
    sound = its.sound;
    polygons = λ polygon polygon_rings there. polygon_by_itself rings polygon_rings (its.polygons polygon polygon_rings there);
  };
}

-- features
feature_by_itself : (layer_record : LayerRecord) (it : FeatureRecord) → IsValidFeatureBy Feature layer_record it → IsValidFeatureBy Polygon layer_record it
feature_by_itself layer_record it valid = record { tags = valid.tags; geometry = geometry_by_itself it valid.geometry }

-- and bytes
pub valid_by_itself : (bytes : List ℕ) → ValidBy Feature bytes → ValidBy Polygon bytes
valid_by_itself bytes valid =
    let all : IsValidTileBy Feature valid.tile = valid.valid in
    record {
      tile = valid.tile;
      is = valid.is;
      valid = record {
        versions = all.versions;
        names = all.names;
        features = λ layer feature layer_record it there. feature_by_itself layer_record it (all.features layer feature layer_record it there);
      };
    }
