-- From least numbers of nodes to first and next codes. The code of `first` cites Node, Row and Root; that of `next` cites Stands, NextNode,
-- NextRow and NextRoot.
pub mod Ties
pub mod Node
pub mod Row
pub mod Root
pub mod Stands
pub mod NextNode
pub mod NextRow
pub mod NextRoot
