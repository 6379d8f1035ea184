pub mod SortLaws
